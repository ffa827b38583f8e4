use Rattle.std.proofs.Common.{List, [], ◌∷◌, ℕ, arith}
use Rattle.vx_plan_nodes.specs.Describe.{Copying}
use Rattle.vx_plan_nodes.specs.Phases.{first_columns}
use Rattle.vx_plan_nodes.specs.DescribeView.{copying_of}
use Rattle.vx_check_rules.specs.KeyedView.{keys_seen}
use Rattle.vx_check_rules.specs.Seen.{columns_seen}
use Rattle.vx_check_options.specs.FoundKeys.{both_give}
use Rattle.vx_check_options.proofs.KeyChoices.{finds-next, beside-any}
use Rattle.vx_check_options.proofs.keys.Search.add_beside.Goals as goal

pub loop-other-preserved : goal.loop-other-preserved
loop-other-preserved c =
    let k : Copying = copying_of c.args.self.now.first.copying in
    let j : Copying = copying_of c.args.self.now.second.copying in
    let key : List ℕ = columns_seen c.args.key in
    finds-next (λ vs. both_give k j (key ∷ []) vs) (λ v. both_give k j (key ∷ []) (v ∷ []))
    (first_columns c.args.self.now.width) (keys_seen c.args.self.now.second.keys) c.loop-other.other (columns_seen c.at.result) _ _ _ (beside-any k j key) (omega (arith, c.loop-other-test.true, c.count-other-end.ensures)) c.at.ensures
    c.loop-other.invariant c.in_ok-add_both.ensures
