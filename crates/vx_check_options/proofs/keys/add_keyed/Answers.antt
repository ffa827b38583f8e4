use Rattle.std.proofs.Common.{List, [], ◌∷◌, ℕ, arith}
use Rattle.vx_plan_nodes.specs.Describe.{Copying}
use Rattle.vx_plan_nodes.specs.Phases.{first_columns}
use Rattle.vx_plan_nodes.specs.DescribeView.{copying_of}
use Rattle.vx_check_rules.specs.KeyedView.{keys_seen}
use Rattle.vx_check_rules.specs.Seen.{columns_seen}
use Rattle.vx_check_options.specs.FoundKeys.{both_give}
use Rattle.vx_check_options.proofs.KeyChoices.{finds-next, among-any}
use Rattle.vx_check_options.proofs.keys.add_keyed.Goals as goal

pub loop-key-preserved : goal.loop-key-preserved
loop-key-preserved c =
    let k : Copying = copying_of c.args.keyed.first.copying in
    let j : Copying = copying_of c.other_keys.result.copying in
    let others : List (List ℕ) = keys_seen c.other_keys.result.keys in
    finds-next (λ vs. both_give k j vs others) (λ v. both_give k j (v ∷ []) others)
    (first_columns c.args.width) (keys_seen c.args.keyed.first.keys) c.loop-key.key (columns_seen c.at.result) _ _ _ (among-any k j others) (omega (arith, c.loop-key-test.true, c.count-key-end.ensures)) c.at.ensures
    c.loop-key.invariant c.in_ok-add_beside.ensures
