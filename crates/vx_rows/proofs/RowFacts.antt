-- Rows value by value.
use Rattle.std.proofs.Common.{◌≡◌, ℕ, Bool, true, false, List, map, length, drop, refl, sym, ap, ◌∙◌}
use Rattle.std.proofs.lemmas.List.{length-map}
use Rattle.vx_rows_values.specs.declared.value.Value.{Value}
use Rattle.vx_rows_values.specs.ValueView.{val_of}
use Rattle.vx_rows_values.specs.Values.{Row, row_eq}
use Rattle.vx_rows_values.proofs.Compare.{row_eq-same}

abbrev pub rest : List Value → ℕ → Row
rest xs k = map val_of (drop k xs)

pub length-eq : (xs ys : List Value) → (length xs ≡ length ys → ⊥) → row_eq (map val_of xs) (map val_of ys) ≡ false
length-eq xs ys h = by (row_eq (map val_of xs) (map val_of ys)) refl
  where
    by : (b : Bool) → row_eq (map val_of xs) (map val_of ys) ≡ b → row_eq (map val_of xs) (map val_of ys) ≡ false
    by true e = absurd (h (sym (length-map xs val_of) ∙ (ap length (row_eq-same _ _ e) ∙ length-map ys val_of)))
    by false e = e
