use Rattle.std.proofs.Common.{List, [], ◌∷◌, ℕ, arith}
use Rattle.vx_plan_nodes.specs.Describe.{Copying}
use Rattle.vx_plan_nodes.specs.DescribeView.{copying_of}
use Rattle.vx_check_rules.specs.KeyedView.{keys_seen}
use Rattle.vx_check_rules.specs.Seen.{columns_seen}
use Rattle.vx_check_options.specs.FoundKeys.{both_give}
use Rattle.vx_check_options.proofs.KeyChoices.{beside-any}
use Rattle.vx_check_shown.proofs.Gathering.{copies_of_both, gathers-next}
use Rattle.vx_check_shown.proofs.candidates.Search.put_beside.Goals as goal

pub loop-other-preserved : goal.loop-other-preserved
loop-other-preserved c =
    let self = c.args.self.now in
    let k : Copying = copying_of self.first.copying in
    let j : Copying = copying_of self.second.copying in
    let key : List ℕ = columns_seen c.args.key in
    let e = copies_of_both k j (keys_seen self.first.keys) (keys_seen self.second.keys) in
    gathers-next (λ vs. both_give k j (key ∷ []) vs) (λ v. both_give k j (key ∷ []) (v ∷ [])) e e self.width
    (keys_seen self.second.keys) c.loop-other.other (columns_seen c.at.result) _ _ _ (beside-any k j key) (omega (arith, c.loop-other-test.true, c.count-other-end.ensures)) c.at.ensures
    (λ d x h. h) c.loop-other.invariant c.in_ok-put_both.ensures
