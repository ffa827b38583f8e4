-- Rows that fit, and rows made of some of their values.
use Rattle.std.proofs.Common.{◌≡◌, ℕ, zero, suc, ◌<◌, List, [], ◌∷◌, refl, true, sym, ap, ◌∙◌, length, get_or, map, arith, pos}
use Rattle.std.specs.Prelude.{All}
use Rattle.std.specs.List.{list_all, AllByRecursion}
use Rattle.std.proofs.lemmas.List.{length-map, get_or-map}
use Rattle.vx_rows_values.specs.declared.value.ColType.{ColType}
use Rattle.vx_rows_values.specs.declared.value.ColType.TheVariants.{Int}
use Rattle.vx_rows_values.specs.Values.{Row, num, value_at}
use Rattle.vx_rows_values.specs.Types.{type_of, type_at, is_held, Fits}
use Rattle.vx_rows_values.proofs.Booleans.{and-left, and-right, and-both}
use Rattle.vx_rows.specs.Lists.{each_below}
use Rattle.vx_rows.specs.View.{RowsView}
use Rattle.vx_rows.proofs.Below.{each_below-all}
use Rattle.vx_rows_views.specs.declared.chunk.Field.{Field}
use Rattle.vx_rows_views.specs.Chunks.{rows_in, types_in, value_in, row_in, type_in, IsThere, IsChunk}

-- the same row and types under other names
pub fits-as : (ts us : List ColType) (a b : Row) → us ≡ ts → b ≡ a → Fits ts a → Fits us b
fits-as ts us a b e r f = record {
  types_are = ap (map type_of) r ∙ (f.types_are ∙ sym e);
  values_are = ap (list_all is_held) r ∙ f.values_are;
}

pub fit-width : (ts : List ColType) (row : Row) → Fits ts row → length row ≡ length ts
fit-width ts row f = sym (length-map row type_of) ∙ ap length f.types_are

pub value-type : (ts : List ColType) (row : Row) (c : ℕ) → Fits ts row → c < length ts → type_of (value_at row c) ≡ type_at ts c
value-type ts row c f h =
    let w = fit-width ts row f in
    sym (get_or-map type_of row c (num (pos 0)) Int (omega (arith, w, h))) ∙ ap (λ xs. get_or xs c Int) f.types_are

value-held : (row : Row) (c : ℕ) → list_all is_held row ≡ true → is_held (value_at row c) ≡ true
value-held [] c h = refl
value-held (v ∷ vs) zero h = and-left (is_held v) (list_all is_held vs) h
value-held (v ∷ vs) (suc c) h = value-held vs c (and-right (is_held v) (list_all is_held vs) h)

module _ {types : List ColType} {tables : List RowsView} {fields : List Field} {count : ℕ} (is : IsChunk types tables fields count) (k : ℕ) (near : k < count) where
  row-types : (fs : List Field) → All (IsThere tables) fs → map type_of (row_in tables fs k) ≡ map (type_in tables) fs
  row-types [] h = refl
  row-types (f ∷ fs) h =
      let r = h zero f (omega arith) in
      ap (λ t. t ∷ map type_of (row_in tables fs k)) (value-type (types_in tables f.part) (get_or (rows_in tables f.part) k []) f.column (is.fits f.part k r.0 near) r.1)
      ∙ ap (λ ts. type_in tables f ∷ ts) (row-types fs (λ i d l. h (suc i) d (omega arith)))

  row-held : (fs : List Field) → All (IsThere tables) fs → list_all is_held (row_in tables fs k) ≡ true
  row-held [] h = refl
  row-held (f ∷ fs) h =
      let r = h zero f (omega arith) in
      and-both (is_held (value_in tables k f)) (list_all is_held (row_in tables fs k))
      (value-held (get_or (rows_in tables f.part) k []) f.column (is.fits f.part k r.0 near).values_are)
      (row-held fs (λ i d l. h (suc i) d (omega arith)))

  pub row-fits : Fits types (row_in tables fields k)
  row-fits = record {
    types_are = row-types fields is.there ∙ sym is.kinds;
    values_are = row-held fields is.there;
  }

pub chunk-fits : {types : List ColType} {tables : List RowsView} {fields : List Field} {count : ℕ} → IsChunk types tables fields count → AllByRecursion (Fits types) (each_below count (row_in tables fields))
chunk-fits {types} {tables} {fields} {count} is = each_below-all (Fits types) count (row_in tables fields) (λ k h. row-fits is k h)
