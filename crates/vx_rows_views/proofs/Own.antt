-- All columns of one table.
use Rattle.std.proofs.Common.{◌≡◌, ℕ, ◌+◌, ◌<◌, ◌≤◌, List, [], ◌∷◌, refl, subst, sym, ap, ◌∙◌, length, get_or, arith, pos}
use Rattle.std.specs.Prelude.{slice_range}
use Rattle.std.specs.List.{AllByRecursion}
use Rattle.vx_rows_values.specs.declared.value.ColType.{ColType}
use Rattle.vx_rows_values.specs.declared.value.ColType.TheVariants.{Int}
use Rattle.vx_rows_values.specs.Values.{Row, num}
use Rattle.vx_rows_values.specs.Types.{Fits}
use Rattle.vx_rows.specs.Lists.{each_below}
use Rattle.vx_rows.specs.View.{RowsView}
use Rattle.vx_rows.proofs.Below.{length-each_below, get_or-each_below, each_below-ext, each_below-is, map-each_below, all_here}
use Rattle.vx_rows_views.specs.declared.chunk.Field.{Field}
use Rattle.vx_rows_views.specs.Chunks.{type_in, value_in, row_in, IsChunk, own_field}
use Rattle.vx_rows_views.proofs.Facts.{length-slice, get_or-slice}
use Rattle.vx_rows_views.proofs.Fitting.{fits-as, fit-width}

pub own-is : (types : List ColType) (t : RowsView) (count : ℕ) → types ≡ t.types → length t.rows ≡ count → ((k : ℕ) → k < length t.rows → Fits t.types (get_or t.rows k [])) → IsChunk types (t ∷ []) (each_below (length types) own_field) count
own-is types t count e l fit = record {
  kinds = sym (map-each_below (type_in (t ∷ [])) (length types) own_field ∙ (ap (λ ts. each_below (length types) (λ k. get_or ts k Int)) (sym e) ∙ each_below-is types Int));
  long = λ p h. let z : p ≡ 0 = omega arith in rw z l;
  there = λ k d h.
      let n = length-each_below (length types) own_field in
      let v = get_or-each_below (length types) own_field k d (omega (arith, n, h)) in
      let m = ap length e in
      rw v (omega arith, omega (arith, m, n, h));
  fits = λ p k h near. let z : p ≡ 0 = omega arith in rw z (fit k (omega (arith, l, near)));
}

pub own-rows : (n : ℕ) (t : RowsView) (count : ℕ) → length t.rows ≡ count → ((k : ℕ) → k < length t.rows → length (get_or t.rows k []) ≡ n)
    → each_below count (row_in (t ∷ []) (each_below n own_field)) ≡ t.rows
own-rows n t count l w =
    each_below-ext count _ (λ k. get_or t.rows k []) (λ k h.
    map-each_below (value_in (t ∷ []) k) n own_field
    ∙ (ap (λ m. each_below m (λ c. get_or (get_or t.rows k []) c (num (pos 0)))) (sym (w k (omega (arith, l, h)))) ∙ each_below-is (get_or t.rows k []) (num (pos 0))))
    ∙ (ap (λ m. each_below m (λ k. get_or t.rows k [])) (sym l) ∙ each_below-is t.rows [])

pub slice-fits : (types : List ColType) (rows part : List Row) (a b : ℕ) → AllByRecursion (Fits types) rows → part ≡ slice_range rows a b → a ≤ b → b ≤ length rows
    → (k : ℕ) → k < length part → Fits types (get_or part k [])
slice-fits types rows part a b fit e h l k near =
    let n = ap length e ∙ length-slice rows a b h l in
    let f = all_here (Fits types) rows fit (a + k) [] (omega (arith, n, near, l)) in
    let v = ap (λ xs. get_or xs k []) e ∙ get_or-slice rows a b k [] (omega (arith, n, near)) in
    fits-as types types (get_or rows (a + k) []) (get_or part k []) refl v f

-- the rows of one part, all columns in order, are those of the part
only-view : (types : List ColType) (t : RowsView) (count : ℕ) → IsChunk types (t ∷ []) (each_below (length t.types) own_field) count
    → t ≡ record { types = types; rows = each_below count (row_in (t ∷ []) (each_below (length t.types) own_field)) }
only-view types t count is =
    let kinds : t.types ≡ types = sym (is.kinds ∙ (map-each_below (type_in (t ∷ [])) (length t.types) own_field ∙ each_below-is t.types Int)) in
    let long : length t.rows ≡ count = is.long 0 (omega arith) in
    let rows : t.rows ≡ each_below count (row_in (t ∷ []) (each_below (length t.types) own_field)) =
    sym (own-rows (length t.types) t count long (λ k h. fit-width t.types (get_or t.rows k []) (is.fits 0 k (omega arith) (omega (arith, long, h))))) in
    λ i. record { types = kinds i; rows = rows i }

one-list : (ts : List RowsView) (t : RowsView) → length ts ≡ 1 → t ≡ get_or ts 0 t → ts ≡ t ∷ []
one-list [] t l e = absurd (omega arith)
one-list (u ∷ []) t l e = ap (λ v. v ∷ []) (sym e)
one-list (u ∷ v ∷ ts) t l e = absurd (omega arith)

pub only-seen : (types : List ColType) (tables : List RowsView) (fields : List Field) (count : ℕ) (now t : RowsView) → IsChunk types tables fields count
    → record { types = types; rows = each_below count (row_in tables fields) } ≡ now → length tables ≡ 1 → t ≡ get_or tables 0 t → fields ≡ each_below (length t.types) own_field → t ≡ now
only-seen types tables fields count now t is seen l e own =
    let one = one-list tables t l e in
    let there : IsChunk types (t ∷ []) (each_below (length t.types) own_field) count = subst (λ (fs : List Field). IsChunk types (t ∷ []) fs count) own (subst (λ (ts : List RowsView). IsChunk types ts fields count) one is) in
    only-view types t count there
    ∙ (ap (λ (fs : List Field). record { types = types; rows = each_below count (row_in (t ∷ []) fs) }) (sym own)
    ∙ (ap (λ (ts : List RowsView). record { types = types; rows = each_below count (row_in ts fields) }) (sym one) ∙ seen))
