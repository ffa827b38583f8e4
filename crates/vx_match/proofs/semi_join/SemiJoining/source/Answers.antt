use Rattle.std.proofs.Common.{◌≡◌, ℕ, List, length, sym, subst}
use Rattle.vx_rows_values.specs.declared.value.ColType.{ColType}
use Rattle.vx_rows.specs.View.{AreColumns}
use Rattle.vx_match_join.specs.Matching.{left_of_pairs}
use Rattle.vx_match.proofs.SemiJoins.{same-pairs}
use Rattle.vx_match.proofs.semi_join.SemiJoining.source.Goals as goal

pub invariant_of-kernel : goal.invariant_of-kernel
invariant_of-kernel c =
    let on : c.in_ok-build.build.on ≡ c.args.matching.on.items = same-pairs _ _ _ _ _ _ c.in_ok-build.ensures.op in
    subst (λ (ts : List ColType). AreColumns (length ts) (left_of_pairs c.in_ok-build.build.on)) (sym c.in_ok-left.ensures.items)
    (subst (λ (ps : List (ℕ × ℕ)). AreColumns (length c.args.left.now) (left_of_pairs ps)) (sym on) c.requires.left)
