use Rattle.std.proofs.Common.{◌∙◌, ℕ, List, length, map, ap, sym, subst}
use Rattle.vx_rows_values.specs.declared.value.ColType.{ColType}
use Rattle.vx_rows.specs.View.{AreColumns}
use Rattle.vx_match.proofs.hash_join.HashJoining.source.Goals as goal

pub invariant_of-kernel : goal.invariant_of-kernel
invariant_of-kernel c =
    let lefts : List (ℕ × ℕ) → List ℕ = map (λ p. p.0) in
    let rights : List (ℕ × ℕ) → List ℕ = map (λ p. p.1) in
    let L : List ColType → Type 0 = λ ts. AreColumns (length ts) (lefts c.args.on.items) in
    let R : List ColType → Type 0 = λ ts. AreColumns (length ts) (rights c.args.on.items) in
    record {
      lefts = c.in_ok-left_columns.ensures ∙ ap lefts c.as_slice.ensures.value;
      rights = c.in_ok-build.ensures.columns ∙ (c.in_ok-right_columns.ensures ∙ ap rights c.as_slice-2.ensures.value);
      types = c.in_ok-build.ensures.types;
      of_left = subst L (sym c.in_ok-left.ensures.items) c.requires.left;
      of_right = subst R (sym c.in_ok-read.ensures.types) c.requires.right;
    }
