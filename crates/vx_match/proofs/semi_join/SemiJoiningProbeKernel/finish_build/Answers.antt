use Rattle.std.proofs.Common.{ℕ, List, length, sym, subst}
use Rattle.vx_rows.specs.View.{AreColumns}
use Rattle.vx_match_join.specs.Matching.{left_of_pairs}
use Rattle.vx_match.proofs.SemiJoins.{same-pairs}
use Rattle.vx_match.proofs.semi_join.SemiJoiningProbeKernel.finish_build.Goals as goal

pub invariant_of-self : goal.invariant_of-self
invariant_of-self c =
    subst (λ (ps : List (ℕ × ℕ)). AreColumns (length c.self.inside.left.items) (left_of_pairs ps)) (sym (same-pairs _ _ _ _ _ _ c.finish.ensures.op)) c.self.invariant
