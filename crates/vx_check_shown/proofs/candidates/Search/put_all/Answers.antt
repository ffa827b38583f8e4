use Rattle.std.proofs.Common.{List, [], ◌∷◌, ℕ, arith}
use Rattle.vx_plan_nodes.specs.Describe.{Copying}
use Rattle.vx_plan_nodes.specs.DescribeView.{copying_of}
use Rattle.vx_check_rules.specs.KeyedView.{keys_seen}
use Rattle.vx_check_rules.specs.Seen.{columns_seen}
use Rattle.vx_check_options.specs.FoundKeys.{both_give}
use Rattle.vx_check_options.proofs.KeyChoices.{among-any}
use Rattle.vx_check_shown.proofs.Gathering.{copies_of_both, gathers-next}
use Rattle.vx_check_shown.proofs.candidates.Search.put_all.Goals as goal

pub loop-key-preserved : goal.loop-key-preserved
loop-key-preserved c =
    let self = c.args.self.now in
    let k : Copying = copying_of self.first.copying in
    let j : Copying = copying_of self.second.copying in
    let others : List (List ℕ) = keys_seen self.second.keys in
    let e = copies_of_both k j (keys_seen self.first.keys) others in
    gathers-next (λ vs. both_give k j vs others) (λ v. both_give k j (v ∷ []) others) e e self.width
    (keys_seen self.first.keys) c.loop-key.key (columns_seen c.at.result) _ _ _ (among-any k j others) (omega (arith, c.loop-key-test.true, c.count-key-end.ensures)) c.at.ensures
    (λ d x h. h) c.loop-key.invariant c.in_ok-put_beside.ensures
