-- Rows whose values lie in several tables.
use Rattle.std.proofs.Common.{◌≡◌, ℕ, ℤ, zero, suc, ◌+◌, ◌-◌, ◌<◌, ◌≤◌, List, [], ◌∷◌, refl, sym, ap, ◌∙◌, length, get_or, map, arith, pos}
use Rattle.std.specs.Prelude.{All, slice_range}
use Rattle.std.proofs.lemmas.List.{length-map, get_or-map, same_lists}
use Rattle.vx_rows_values.specs.declared.value.ColType.{ColType}
use Rattle.vx_rows_values.specs.Values.{Row, value_at, num, pick}
use Rattle.vx_rows_values.specs.declared.value.ColType.TheVariants.{Int}
use Rattle.vx_rows_values.specs.Types.{type_at}
use Rattle.vx_rows.specs.Lists.{each_below}
use Rattle.vx_rows.proofs.Fill.{map_at}
use Rattle.vx_rows.specs.View.{RowsView, row, AreColumns}
use Rattle.vx_rows.proofs.Below.{length-each_below, get_or-each_below, each_below-ext, each_below-is, map-each_below, slice_range-each_below}
use Rattle.vx_rows_views.specs.declared.chunk.Field.{Field}
use Rattle.vx_rows_views.specs.Chunks.{rows_in, types_in, value_in, row_in, type_in, IsThere, IsChunk, sliced, chosen, field_at}
use Rattle.vx_rows_views.specs.Selected.{AreNumbers, AreTexts}
use Rattle.vx_rows_views.proofs.Facts.{length-slice, get_or-slice}
use Rattle.vx_rows_views.proofs.Fitting.{fits-as}

none : RowsView
none = record { types = []; rows = [] }

-- what becomes of each table's rows, its types staying
module _ (g : RowsView → RowsView) (keeps : (t : RowsView) → (g t).types ≡ t.types) (tables : List RowsView) where
  types-kept : (p : ℕ) → types_in (map g tables) p ≡ types_in tables p
  types-kept p = ap (λ ts. get_or ts p []) (by tables)
    where
      by : (ts : List RowsView) → map (λ t. t.types) (map g ts) ≡ map (λ t. t.types) ts
      by [] = refl
      by (t ∷ ts) = ap (λ x. x ∷ map (λ t. t.types) (map g ts)) (keeps t) ∙ ap (λ xs. t.types ∷ xs) (by ts)

  kinds-kept : (fields : List Field) → map (type_in tables) fields ≡ map (type_in (map g tables)) fields
  kinds-kept [] = refl
  kinds-kept (f ∷ fs) = ap (λ ts. type_at ts f.column ∷ map (type_in tables) fs) (sym (types-kept f.part)) ∙ ap (λ ks. type_in (map g tables) f ∷ ks) (kinds-kept fs)

  there-kept : (fields : List Field) → All (IsThere tables) fields → All (IsThere (map g tables)) fields
  there-kept fields h = λ k d l.
      let r = h k d l in
      let f = get_or fields k d in
      let n = length-map tables g in
      let w = ap length (types-kept f.part) in
      (omega (arith, r.0, n), omega (arith, r.1, w))

  module _ (k j : ℕ) (moves : (p : ℕ) → p < length tables → get_or (rows_in (map g tables) p) k [] ≡ get_or (rows_in tables p) j []) where
    row-kept : (fields : List Field) → All (IsThere tables) fields → row_in (map g tables) fields k ≡ row_in tables fields j
    row-kept [] h = refl
    row-kept (f ∷ fs) h =
        let r = h zero f (omega arith) in
        ap (λ x. value_at x f.column ∷ row_in (map g tables) fs k) (moves f.part r.0)
        ∙ ap (λ vs. value_in tables j f ∷ vs) (row-kept fs (λ i d l. h (suc i) d (omega arith)))

rows-at : (g : RowsView → RowsView) (tables : List RowsView) (p : ℕ) → p < length tables → rows_in (map g tables) p ≡ (g (get_or tables p none)).rows
rows-at g tables p h =
    let n = length-map tables g in
    get_or-map (λ t. t.rows) (map g tables) p (g none) [] (omega (arith, n, h)) ∙ ap (λ t. t.rows) (get_or-map g tables p none (g none) h)

own-rows : (tables : List RowsView) (p : ℕ) → p < length tables → rows_in tables p ≡ (get_or tables p none).rows
own-rows tables p h = get_or-map (λ t. t.rows) tables p none [] h

-- rows at places
module _ {types : List ColType} {tables : List RowsView} {fields : List Field} {count : ℕ} (is : IsChunk types tables fields count) (places : List ℕ) where
  place-row : (p k : ℕ) → p < length tables → k < length places → get_or (rows_in (map (chosen places) tables) p) k [] ≡ get_or (rows_in tables p) (get_or places k 0) []
  place-row p k h l =
      ap (λ xs. get_or xs k []) (rows-at (chosen places) tables p h)
      ∙ (get_or-map (row (get_or tables p none)) places k 0 [] l ∙ ap (λ xs. get_or xs (get_or places k 0) []) (sym (own-rows tables p h)))

  pub chosen-is : All (λ i. i < count) places → IsChunk types (map (chosen places) tables) fields (length places)
  chosen-is near = record {
    kinds = is.kinds ∙ kinds-kept (chosen places) (λ t. refl) tables fields;
    long = λ p h. let n = length-map tables (chosen places) in let q : p < length tables = omega (arith, n, h) in
        ap length (rows-at (chosen places) tables p q) ∙ length-map places (row (get_or tables p none));
    there = there-kept (chosen places) (λ t. refl) tables fields is.there;
    fits = λ p k h l. let n = length-map tables (chosen places) in let q : p < length tables = omega (arith, n, h) in
        fits-as (types_in tables p) (types_in (map (chosen places) tables) p) (get_or (rows_in tables p) (get_or places k 0) []) (get_or (rows_in (map (chosen places) tables) p) k [])
        (types-kept (chosen places) (λ t. refl) tables p) (place-row p k q l) (is.fits p (get_or places k 0) q (near k 0 l));
  }

  pub chosen-rows : (now : RowsView) → each_below count (row_in tables fields) ≡ now.rows → All (λ i. i < length now.rows) places
      → each_below (length places) (row_in (map (chosen places) tables) fields) ≡ map (row now) places
  chosen-rows now e h =
      let n = sym (ap length e) ∙ length-each_below count (row_in tables fields) in
      each_below-ext (length places) _ (λ k. row now (get_or places k 0)) (λ k l.
      row-kept (chosen places) (λ t. refl) tables k (get_or places k 0) (λ p q. place-row p k q l) fields is.there
      ∙ (let s = h k 0 l in sym (get_or-each_below count (row_in tables fields) (get_or places k 0) [] (omega (arith, n, s))) ∙ ap (λ xs. get_or xs (get_or places k 0) []) e))
      ∙ (sym (map-each_below (row now) (length places) (λ k. get_or places k 0)) ∙ ap (map (row now)) (each_below-is places 0))

-- a part of the rows
module _ {types : List ColType} {tables : List RowsView} {fields : List Field} {count : ℕ} (is : IsChunk types tables fields count) (a b : ℕ) (order : a ≤ b) (within : b ≤ count) where
  slice-row : (p k : ℕ) → p < length tables → k < b - a → get_or (rows_in (map (sliced a b) tables) p) k [] ≡ get_or (rows_in tables p) (a + k) []
  slice-row p k h l =
      ap (λ xs. get_or xs k []) (rows-at (sliced a b) tables p h)
      ∙ (get_or-slice (get_or tables p none).rows a b k [] l ∙ ap (λ xs. get_or xs (a + k) []) (sym (own-rows tables p h)))

  pub sliced-is : IsChunk types (map (sliced a b) tables) fields (b - a)
  sliced-is = record {
    kinds = is.kinds ∙ kinds-kept (sliced a b) (λ t. refl) tables fields;
    long = λ p h. let n = length-map tables (sliced a b) in let q : p < length tables = omega (arith, n, h) in
        let m = is.long p q in let o = ap length (own-rows tables p q) in
        ap length (rows-at (sliced a b) tables p q) ∙ length-slice (get_or tables p none).rows a b order (omega (arith, m, o));
    there = there-kept (sliced a b) (λ t. refl) tables fields is.there;
    fits = λ p k h l. let n = length-map tables (sliced a b) in let q : p < length tables = omega (arith, n, h) in
        fits-as (types_in tables p) (types_in (map (sliced a b) tables) p) (get_or (rows_in tables p) (a + k) []) (get_or (rows_in (map (sliced a b) tables) p) k [])
        (types-kept (sliced a b) (λ t. refl) tables p) (slice-row p k q l) (is.fits p (a + k) q (omega (arith, l, order, within)));
  }

  pub sliced-rows : (now : RowsView) → each_below count (row_in tables fields) ≡ now.rows → each_below (b - a) (row_in (map (sliced a b) tables) fields) ≡ slice_range now.rows a b
  sliced-rows now e =
      each_below-ext (b - a) _ (λ k. row_in tables fields (a + k)) (λ k l. row-kept (sliced a b) (λ t. refl) tables k (a + k) (λ p q. slice-row p k q l) fields is.there)
      ∙ (sym (slice_range-each_below count a b (row_in tables fields) order within) ∙ ap (λ xs. slice_range xs a b) e)

-- what a caller sees of a chunk
module _ {types : List ColType} {tables : List RowsView} {fields : List Field} {count : ℕ} (is : IsChunk types tables fields count) where
  pub part-long : (p : ℕ) (d : RowsView) → p < length tables → length (get_or tables p d).rows ≡ count
  part-long p d h = ap length (sym (get_or-map (λ t. t.rows) tables p d [] h)) ∙ is.long p h

  module _ (now : RowsView) (e : each_below count (row_in tables fields) ≡ now.rows) where
    pub count-is : length now.rows ≡ count
    count-is = sym (ap length e) ∙ length-each_below count (row_in tables fields)

    pub cell-value : (i column : ℕ) (f : Field) (t : RowsView) → i < length now.rows → column < length fields → f ≡ get_or fields column f → f.part < length tables → t ≡ get_or tables f.part t
        → value_at (get_or t.rows i []) f.column ≡ value_at (row now i) column
    cell-value i column f t h l fe q te =
        let n = count-is in
        ap (λ u. value_at (get_or u.rows i []) f.column) te
        ∙ (ap (λ xs. value_at (get_or xs i []) f.column) (sym (get_or-map (λ u. u.rows) tables f.part t [] q))
        ∙ (sym (map_at (value_in tables i) fields column f (num (pos 0)) l fe)
        ∙ ap (λ r. value_at r column) (sym (get_or-each_below count (row_in tables fields) i [] (omega (arith, n, h))) ∙ ap (λ xs. get_or xs i []) e)))

    -- a column of the rows is one of a table
    pub column-value : (column : ℕ) (f : Field) (t : RowsView) → column < length fields → f ≡ get_or fields column f → f.part < length tables → t ≡ get_or tables f.part t
        → map (λ r. value_at r f.column) t.rows ≡ map (λ r. value_at r column) now.rows
    column-value column f t l fe q te =
        let n = count-is in
        let m = ap (λ u. length u.rows) te ∙ part-long f.part t q in
        let a = length-map t.rows (λ r. value_at r f.column) in
        let b = length-map now.rows (λ r. value_at r column) in
        same_lists _ _ (omega (arith, n, m, a, b)) (λ k d near.
        get_or-map (λ r. value_at r f.column) t.rows k [] d (omega (arith, a, near))
        ∙ (cell-value k column f t (omega (arith, n, m, a, near)) l fe q te ∙ sym (get_or-map (λ r. value_at r column) now.rows k [] d (omega (arith, n, m, a, near)))))

-- the type of a column is that of one of a table
pub field-type : {types : List ColType} {tables : List RowsView} {fields : List Field} {count : ℕ} (is : IsChunk types tables fields count) (column : ℕ) (f : Field) (t : RowsView)
    → column < length fields → f ≡ get_or fields column f → f.part < length tables → t ≡ get_or tables f.part t → type_at t.types f.column ≡ type_at types column
field-type {types} {tables} {fields} {count} is column f t l fe q te =
    ap (λ u. type_at u.types f.column) te
    ∙ (ap (λ ts. type_at ts f.column) (sym (get_or-map (λ u. u.types) tables f.part t [] q))
    ∙ (sym (map_at (type_in tables) fields column f Int l fe) ∙ ap (λ ks. type_at ks column) (sym is.kinds)))

-- where the values of a column lie
module _ {types : List ColType} {tables : List RowsView} {fields : List Field} {count : ℕ} (is : IsChunk types tables fields count) (now : RowsView) (e : each_below count (row_in tables fields) ≡ now.rows)
    (column : ℕ) (f : Field) (t : RowsView) (l : column < length fields) (fe : f ≡ get_or fields column f) (q : f.part < length tables) (te : t ≡ get_or tables f.part t) where
  as-long : length t.rows ≡ length now.rows
  as-long = let n = count-is is now e in let m = ap (λ u. length u.rows) te ∙ part-long is f.part t q in omega (arith, n, m)

  pub numbers-of : (numbers : List ℤ) (positions : List ℕ) → AreNumbers numbers positions f.column t.rows → AreNumbers numbers positions column now.rows
  numbers-of numbers positions a = record {
    long = let m = as-long in omega (arith, m, a.long);
    near = λ k h. let m = as-long in a.near k (omega (arith, m, h));
    values = λ k h. let m = as-long in sym (cell-value is now e k column f t h l fe q te) ∙ a.values k (omega (arith, m, h));
  }

  pub texts-of : (texts : List (List ℕ)) (positions : List ℕ) → AreTexts texts positions f.column t.rows → AreTexts texts positions column now.rows
  texts-of texts positions a = record {
    long = let m = as-long in omega (arith, m, a.long);
    near = λ k h. let m = as-long in a.near k (omega (arith, m, h));
    values = λ k h. let m = as-long in sym (cell-value is now e k column f t h l fe q te) ∙ a.values k (omega (arith, m, h));
  }

-- some columns
module _ {types : List ColType} {tables : List RowsView} {fields : List Field} {count : ℕ} (is : IsChunk types tables fields count) (cols : List ℕ) (near : AreColumns (length types) cols) where
  width : length types ≡ length fields
  width = ap length is.kinds ∙ length-map fields (type_in tables)

  pub near-fields : AreColumns (length fields) cols
  near-fields = λ k d l. let w = width in let r = near k d l in omega (arith, w, r)

  kinds-of : (cs : List ℕ) → AreColumns (length fields) cs → map (type_at types) cs ≡ map (type_in tables) (map (field_at fields) cs)
  kinds-of [] h = refl
  kinds-of (c ∷ cs) h =
      ap (λ x. x ∷ map (type_at types) cs)
      (ap (λ ts. type_at ts c) is.kinds ∙ get_or-map (type_in tables) fields c (record { part = 0; column = 0 }) Int (h zero 0 (omega arith)))
      ∙ ap (λ xs. type_in tables (field_at fields c) ∷ xs) (kinds-of cs (λ k d l. h (suc k) d (omega arith)))

  pub picked-is : IsChunk (map (type_at types) cols) tables (map (field_at fields) cols) count
  picked-is = record {
    kinds = kinds-of cols near-fields;
    long = is.long;
    there = λ k d l.
        let n = length-map cols (field_at fields) in
        let e = get_or-map (field_at fields) cols k 0 d (omega (arith, n, l)) in
        rw e (is.there (get_or cols k 0) (record { part = 0; column = 0 }) (near-fields k 0 (omega (arith, n, l))));
    fits = is.fits;
  }

  picked-row : (i : ℕ) (cs : List ℕ) → AreColumns (length fields) cs → row_in tables (map (field_at fields) cs) i ≡ pick cs (row_in tables fields i)
  picked-row i [] h = refl
  picked-row i (c ∷ cs) h =
      ap (λ v. v ∷ row_in tables (map (field_at fields) cs) i) (sym (get_or-map (value_in tables i) fields c (record { part = 0; column = 0 }) (num (pos 0)) (h zero 0 (omega arith))))
      ∙ ap (λ vs. value_at (row_in tables fields i) c ∷ vs) (picked-row i cs (λ k d l. h (suc k) d (omega arith)))

  pub picked-rows : (now : List Row) → each_below count (row_in tables fields) ≡ now → each_below count (row_in tables (map (field_at fields) cols)) ≡ map (pick cols) now
  picked-rows now e =
      each_below-ext count _ (λ i. pick cols (row_in tables fields i)) (λ i l. picked-row i cols near-fields)
      ∙ (sym (map-each_below (pick cols) count (row_in tables fields)) ∙ ap (map (pick cols)) e)
