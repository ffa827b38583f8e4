-- The bounds of the range at a place, and lists of types that are not equally long.
use Rattle.std.proofs.Common.{◌≡◌, ℕ, suc, ◌<◌, List, [], ◌∷◌, ◌&&◌, false, refl, sym, ap, ◌∙◌, map, get_or, length, arith}
use Rattle.std.proofs.Math.Bool.{and-false}
use Rattle.std.proofs.lemmas.List.{get_or-map, length-map}
use Rattle.vx_rows_values.specs.ValueView.{val_of}
use Rattle.vx_rows_values.specs.declared.range.NamedRange.{NamedRange}
use Rattle.vx_rows_values.specs.Ranges.{RangeForm, range_form}
use Rattle.vx_plan_nodes.specs.Typed.{bounds_at, type_eq, types_eq}
use Rattle.vx_rows_values.specs.declared.value.ColType.{ColType}

pub bounds_at-form : (rs : List NamedRange) (k : ℕ) (r : NamedRange) → k < length rs → r ≡ get_or rs k r
    → bounds_at (map (λ (d : RangeForm). d.bounds) (map range_form rs)) k ≡ map val_of r.bounds.items
bounds_at-form rs k r h e =
    get_or-map (λ (d : RangeForm). d.bounds) (map range_form rs) k (range_form r) [] (omega (arith, length-map rs range_form))
    ∙ ap (λ (d : RangeForm). d.bounds) (get_or-map range_form rs k r (range_form r) h ∙ ap range_form (sym e))

-- lists of types that are not equally long are not equal
pub lengths_differ : (ts us : List ColType) → (length ts ≡ length us → ⊥) → false ≡ types_eq ts us
lengths_differ [] [] h = absurd (h refl)
lengths_differ [] (u ∷ us) h = refl
lengths_differ (t ∷ ts) [] h = refl
lengths_differ (t ∷ ts) (u ∷ us) h = sym (and-false (type_eq t u)) ∙ ap (λ b. type_eq t u && b) (lengths_differ ts us (λ e. h (ap suc e)))
