-- Chunks side by side.
use Rattle.std.proofs.Common.{◌≡◌, ℕ, zero, suc, ◌+◌, ◌-◌, ◌<◌, ◌≤◌, List, [], ◌∷◌, ◌++◌, refl, sym, ap, ◌∙◌, length, get_or, map, arith, inl, inr}
use Rattle.std.specs.Prelude.{All, zip}
use Rattle.std.proofs.lemmas.Bool.{cases_lt}
use Rattle.std.proofs.lemmas.List.{length-map, length-append, map-append, get_or_append_left, get_or-append_right, same_lists, get_or-map}
use Rattle.std.proofs.lemmas.List.Elements.{All-append}
use Rattle.vx_rows_values.specs.declared.value.ColType.{ColType}
use Rattle.vx_rows_values.specs.Values.{Row, value_at}
use Rattle.vx_rows_values.specs.Types.{type_at}
use Rattle.vx_rows.specs.Lists.{each_below}
use Rattle.vx_rows.specs.View.{RowsView}
use Rattle.vx_rows.proofs.Below.{length-each_below, get_or-each_below, each_below-ext}
use Rattle.vx_rows_views.specs.declared.chunk.Field.{Field}
use Rattle.vx_rows_views.specs.Chunks.{rows_in, types_in, value_in, row_in, type_in, IsThere, IsChunk, shifted}
use Rattle.vx_rows_views.proofs.Fitting.{fits-as}

-- what is read of the tables of the left chunk, and of those of the right one
module _ (A B : List RowsView) where
  left-at : {X : Type 0} (h : RowsView → X) (d : X) (p : ℕ) → p < length A → get_or (map h (A ++ B)) p d ≡ get_or (map h A) p d
  left-at h d p l = let n = length-map A h in ap (λ xs. get_or xs p d) (map-append h A B) ∙ get_or_append_left (map h A) (map h B) d p (omega (arith, n, l))

  right-at : {X : Type 0} (h : RowsView → X) (d : X) (p : ℕ) → length A ≤ p → get_or (map h (A ++ B)) p d ≡ get_or (map h B) (p - length A) d
  right-at h d p l = ap (λ xs. get_or xs p d) (map-append h A B) ∙ get_or-append_right (map h A) (map h B) (length A) p d (length-map A h) l

  moved-at : {X : Type 0} (h : RowsView → X) (d : X) (p : ℕ) → get_or (map h (A ++ B)) (p + length A) d ≡ get_or (map h B) p d
  moved-at h d p = let e : (p + length A) - length A ≡ p = omega arith in right-at h d (p + length A) (omega arith) ∙ ap (λ i. get_or (map h B) i d) e

  left-kinds : (fs : List Field) → All (IsThere A) fs → map (type_in A) fs ≡ map (type_in (A ++ B)) fs
  left-kinds [] h = refl
  left-kinds (f ∷ fs) h =
      let r = h zero f (omega arith) in
      ap (λ ts. type_at ts f.column ∷ map (type_in A) fs) (sym (left-at (λ t. t.types) [] f.part r.0))
      ∙ ap (λ ks. type_in (A ++ B) f ∷ ks) (left-kinds fs (λ i d l. h (suc i) d (omega arith)))

  right-kinds : (fs : List Field) → map (type_in B) fs ≡ map (type_in (A ++ B)) (map (shifted (length A)) fs)
  right-kinds [] = refl
  right-kinds (f ∷ fs) =
      ap (λ ts. type_at ts f.column ∷ map (type_in B) fs) (sym (moved-at (λ t. t.types) [] f.part))
      ∙ ap (λ ks. type_in (A ++ B) (shifted (length A) f) ∷ ks) (right-kinds fs)

  left-row : (k : ℕ) (fs : List Field) → All (IsThere A) fs → row_in (A ++ B) fs k ≡ row_in A fs k
  left-row k [] h = refl
  left-row k (f ∷ fs) h =
      let r = h zero f (omega arith) in
      ap (λ rs. value_at (get_or rs k []) f.column ∷ row_in (A ++ B) fs k) (left-at (λ t. t.rows) [] f.part r.0)
      ∙ ap (λ vs. value_in A k f ∷ vs) (left-row k fs (λ i d l. h (suc i) d (omega arith)))

  right-row : (k : ℕ) (fs : List Field) → row_in (A ++ B) (map (shifted (length A)) fs) k ≡ row_in B fs k
  right-row k [] = refl
  right-row k (f ∷ fs) =
      ap (λ rs. value_at (get_or rs k []) f.column ∷ row_in (A ++ B) (map (shifted (length A)) fs) k) (moved-at (λ t. t.rows) [] f.part)
      ∙ ap (λ vs. value_in B k f ∷ vs) (right-row k fs)

  left-there : (f : Field) → IsThere A f → IsThere (A ++ B) f
  left-there f r =
      let n = length-append A B in
      let w = ap length (left-at (λ t. t.types) [] f.part r.0) in
      (omega (arith, n, r.0), omega (arith, w, r.1))

  right-there : (f : Field) → IsThere B f → IsThere (A ++ B) (shifted (length A) f)
  right-there f r =
      let n = length-append A B in
      let w = ap length (moved-at (λ t. t.types) [] f.part) in
      (omega (arith, n, r.0), omega (arith, w, r.1))

  all-right : (fs : List Field) → All (IsThere B) fs → All (IsThere (A ++ B)) (map (shifted (length A)) fs)
  all-right fs h = λ k d l.
      let n = length-map fs (shifted (length A)) in
      let f = get_or fs k d in
      let small : k < length fs = omega (arith, n, l) in
      rw (get_or-map (shifted (length A)) fs k d d small) (right-there f (h k d small))

  module _ {ta tb : List ColType} {fa fb : List Field} {count : ℕ} (a : IsChunk ta A fa count) (b : IsChunk tb B fb count) where
    pub beside-is : IsChunk (ta ++ tb) (A ++ B) (fa ++ map (shifted (length A)) fb) count
    beside-is = record {
      kinds = ap (λ ts. ts ++ tb) (a.kinds ∙ left-kinds fa a.there)
          ∙ (ap (λ ts. map (type_in (A ++ B)) fa ++ ts) (b.kinds ∙ right-kinds fb) ∙ sym (map-append (type_in (A ++ B)) fa (map (shifted (length A)) fb)));
      long = λ p h. let n = length-append A B in elim (cases_lt p (length A)) [
        | inl l ↦ ap length (left-at (λ t. t.rows) [] p l) ∙ a.long p l
        | inr g ↦ ap length (right-at (λ t. t.rows) [] p g) ∙ b.long (p - length A) (omega (arith, n, h, g))
      ];
      there = All-append (IsThere (A ++ B)) fa (map (shifted (length A)) fb) (λ k d l. left-there (get_or fa k d) (a.there k d l)) (all-right fb b.there);
      fits = λ p k h near. let n = length-append A B in elim (cases_lt p (length A)) [
        | inl l ↦ fits-as (types_in A p) (types_in (A ++ B) p) (get_or (rows_in A p) k []) (get_or (rows_in (A ++ B) p) k [])
            (left-at (λ t. t.types) [] p l) (ap (λ rs. get_or rs k []) (left-at (λ t. t.rows) [] p l)) (a.fits p k l near)
        | inr g ↦ fits-as (types_in B (p - length A)) (types_in (A ++ B) p) (get_or (rows_in B (p - length A)) k []) (get_or (rows_in (A ++ B) p) k [])
            (right-at (λ t. t.types) [] p g) (ap (λ rs. get_or rs k []) (right-at (λ t. t.rows) [] p g)) (b.fits (p - length A) k (omega (arith, n, h, g)) near)
      ];
    }

    beside-row : (k : ℕ) → row_in (A ++ B) (fa ++ map (shifted (length A)) fb) k ≡ row_in A fa k ++ row_in B fb k
    beside-row k =
        map-append (value_in (A ++ B) k) fa (map (shifted (length A)) fb)
        ∙ (ap (λ r. r ++ row_in (A ++ B) (map (shifted (length A)) fb) k) (left-row k fa a.there) ∙ ap (λ r. row_in A fa k ++ r) (right-row k fb))

    pub beside-rows : (left right : List Row) → each_below count (row_in A fa) ≡ left → each_below count (row_in B fb) ≡ right
        → each_below count (row_in (A ++ B) (fa ++ map (shifted (length A)) fb)) ≡ map (λ p. p.0 ++ p.1) (zip left right)
    beside-rows left right e g =
        each_below-ext count _ (λ k. get_or left k [] ++ get_or right k []) (λ k h.
        beside-row k
        ∙ (ap (λ r. r ++ row_in B fb k) (sym (get_or-each_below count (row_in A fa) k [] h) ∙ ap (λ rs. get_or rs k []) e)
        ∙ ap (λ r. get_or left k [] ++ r) (sym (get_or-each_below count (row_in B fb) k [] h) ∙ ap (λ rs. get_or rs k []) g)))
        ∙ zip-each count left right (sym (ap length e) ∙ length-each_below count (row_in A fa)) (sym (ap length g) ∙ length-each_below count (row_in B fb))
      where
        zip-long : (xs ys : List Row) → length xs ≡ length ys → length (zip xs ys) ≡ length xs
        zip-long [] ys e = refl
        zip-long (x ∷ xs) [] e = absurd (omega arith)
        zip-long (x ∷ xs) (y ∷ ys) e = let r = zip-long xs ys (omega arith) in omega (arith, r)

        zip-get : (xs ys : List Row) (k : ℕ) (d : Row) → k < length xs → k < length ys → get_or (map (λ p. p.0 ++ p.1) (zip xs ys)) k d ≡ get_or xs k [] ++ get_or ys k []
        zip-get [] ys k d h l = absurd (omega arith)
        zip-get (x ∷ xs) [] k d h l = absurd (omega arith)
        zip-get (x ∷ xs) (y ∷ ys) zero d h l = refl
        zip-get (x ∷ xs) (y ∷ ys) (suc k) d h l = zip-get xs ys k d (omega arith) (omega arith)

        zip-each : (n : ℕ) (xs ys : List Row) → length xs ≡ n → length ys ≡ n → each_below n (λ k. get_or xs k [] ++ get_or ys k []) ≡ map (λ p. p.0 ++ p.1) (zip xs ys)
        zip-each n xs ys e g =
            let l = length-each_below n (λ k. get_or xs k [] ++ get_or ys k []) in
            let m = length-map (zip xs ys) (λ p. p.0 ++ p.1) in
            let z = zip-long xs ys (e ∙ sym g) in
            same_lists _ _ (omega (arith, l, m, z, e)) (λ k d near.
            let small : k < n = omega (arith, l, near) in
            get_or-each_below n (λ j. get_or xs j [] ++ get_or ys j []) k d small ∙ sym (zip-get xs ys k d (omega (arith, e, small)) (omega (arith, g, small))))

-- what is zipped may be read first
pub zip-read : (f g : ℕ → Row) (xs ys : List ℕ) → map (λ p. p.0 ++ p.1) (zip (map f xs) (map g ys)) ≡ map (λ p. f p.0 ++ g p.1) (zip xs ys)
zip-read f g [] ys = refl
zip-read f g (x ∷ xs) [] = refl
zip-read f g (x ∷ xs) (y ∷ ys) = ap (λ rs. (f x ++ g y) ∷ rs) (zip-read f g xs ys)
