-- A row's refusal names its number, and nothing else of it depends on that.
use Rattle.std.proofs.Common.{◌≡◌, ℕ, ◌==◌, List, [], ◌∷◌, ◌++◌, Option, Some, None, Bool, true, false, cond, Result, Ok, Err, refl, length, ◌⊎◌, inl, inr}
use Rattle.std.specs.Prelude.{ℤ}
use Rattle.std.specs.Str.{is_utf8}
use Rattle.csv.specs.Records.{field_at}
use Rattle.vx_rows_values.specs.Values.{Row, Val, num, text}
use Rattle.vx_rows_values.specs.declared.value.ColType.{ColType}
use Rattle.vx_rows_values.specs.declared.value.ColType.TheVariants as kind
use Rattle.vx_catalog_relations.specs.Walk.{walk_onto}
use Rattle.vx_catalog.specs.Number.{number_of}
use Rattle.vx_catalog.specs.declared.fault.LoadFault.{LoadFault}
use Rattle.vx_catalog.specs.declared.fault.LoadFault.TheVariants as fault
use Rattle.vx_catalog.specs.Loading.{some_number, value_of, some_value, next_value, row_of}

-- a refusal of a row, by its number
abbrev pub IsRowFault : (ℕ → LoadFault) → Type 0
IsRowFault f = (f ≡ (λ k. fault.BadWidth k)) ⊎ ((f ≡ (λ k. fault.NotUtf8 k)) ⊎ ((col : ℕ) × (f ≡ (λ k. fault.BadInt k col))))

-- what is read of a row is the same at each number, or the same refusal of it
abbrev pub RowTells : {X : Type 0} → (ℕ → Result X LoadFault) → Type 0
RowTells {X} r = ((x : X) × ((k : ℕ) → r k ≡ Ok x)) ⊎ ((f : ℕ → LoadFault) × IsRowFault f × ((k : ℕ) → r k ≡ Err (f k)))

tells_number : (col : ℕ) (o : Option ℤ) → RowTells (λ k. some_number k col o)
tells_number col None = inr ((λ k. fault.BadInt k col), inr (inr (col, refl)), λ k. refl)
tells_number col (Some n) = inl (num n, λ k. refl)

tells_text : (field : List ℕ) (b : Bool) → RowTells {X = Val} (λ k. cond b (Ok (text field)) (Err (fault.NotUtf8 k)))
tells_text field true = inl (text field, λ k. refl)
tells_text field false = inr ((λ k. fault.NotUtf8 k), inr (inl refl), λ k. refl)

tells_value : (col : ℕ) (type : ColType) (field : Option (List ℕ)) → RowTells (λ k. some_value k col type field)
unfolding value_of
tells_value col type None = inr ((λ k. fault.BadWidth k), inl refl, λ k. refl)
tells_value col kind.Int (Some field) = tells_number col (number_of field)
tells_value col kind.Text (Some field) = tells_text field (is_utf8 field)

tells_walk : (fields : List (List ℕ)) (types : List ColType) (front : List Val) → RowTells (λ k. walk_onto (next_value k fields) front types)
unfolding walk_onto next_value
tells_walk fields [] front = inl (front, λ k. refl)
tells_walk fields (type ∷ types) front = elim (tells_value (length front) type (field_at fields (length front))) [
  | inl p ↦ elim (tells_walk fields types (front ++ p.0 ∷ [])) [
    | inl q ↦ inl (q.0, λ k. rw (p.1 k) (q.1 k))
    | inr q ↦ inr (q.0, q.1, λ k. rw (p.1 k) (q.2 k))
  ]
  | inr p ↦ inr (p.0, p.1, λ k. rw (p.2 k) refl)
]

pub tells_row : (types : List ColType) (fields : List (List ℕ)) → RowTells (λ k. row_of k types fields)
unfolding row_of
tells_row types fields = by_width (length fields == length types)
  where
    by_width : (b : Bool) → RowTells {X = Row} (λ k. cond b (walk_onto (next_value k fields) [] types) (Err (fault.BadWidth k)))
    by_width true = tells_walk fields types []
    by_width false = inr ((λ k. fault.BadWidth k), inl refl, λ k. refl)
