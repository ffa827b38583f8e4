use Rattle.std.proofs.Common.{◌∙◌, ℕ, List, length, map, ap, sym, subst}
use Rattle.vx_rows_values.specs.declared.value.ColType.{ColType}
use Rattle.vx_rows.specs.View.{AreColumns}
use Rattle.vx_match.proofs.hash_join.HashJoiningProbeKernel.finish_build.Goals as goal

pub invariant_of-self : goal.invariant_of-self
invariant_of-self c =
    let rights : List (ℕ × ℕ) → List ℕ = map (λ p. p.1) in
    let R : List ColType → Type 0 = λ ts. AreColumns (length ts) (rights c.self.inside.on.items) in
    let was = c.self.invariant in
    record {
      lefts = was.lefts;
      rights = c.in_ok-self-inside.ensures.columns ∙ (c.in_ok-columns.ensures ∙ ap rights c.as_slice.ensures.value);
      types = c.in_ok-self-inside.ensures.types ∙ sym c.clear.ensures.types;
      of_left = was.of_left;
      of_right = subst R (sym c.clear.ensures.types) was.of_right;
    }
