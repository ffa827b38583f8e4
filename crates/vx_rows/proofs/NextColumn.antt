-- The next column of a write, and its last.
use Rattle.std.proofs.Common.{◌≡◌, ℕ, true, ◌+◌, ◌<◌, ◌≤◌, List, [], ◌∷◌, sym, refl, ap, ◌∙◌, length, get_or, take, map, arith}
use Rattle.std.specs.List.{list_all}
use Rattle.std.proofs.lemmas.List.{length-map, take_all}
use Rattle.vx_rows.specs.declared.column.Column.{Column}
use Rattle.vx_rows_values.specs.declared.value.ColType.TheVariants as kind
use Rattle.vx_rows_values.specs.Values.{Val}
use Rattle.vx_rows_values.specs.Types.{type_of, type_at, is_held}
use Rattle.vx_rows.specs.Columns.{size, entry, row_of, AreLong, Fills}
use Rattle.vx_rows.proofs.Fill.{map_at, fill_next, fill_as, held_more}

-- the column that was read is long enough
pub long_at : (n : ℕ) (xs : List Column) (j : ℕ) (x : Column) → AreLong n xs → j < length xs → x ≡ get_or xs j x → n ≤ size x
long_at n xs j x all h e = let s = map_at size xs j x 0 h e in let l = all j h in omega (arith, s, l)

-- one more column of others, of which the rows at some places are written
pub column_next : (at m first mid end j : ℕ) (xs ys zs others : List Column) (x : Column) (place : ℕ → ℕ) (v : ℕ → Val) → mid + 1 ≡ end → j < length others
    → x ≡ get_or others j x → ((k : ℕ) → v k ≡ entry x (place k)) → Fills at m first mid xs ys (λ k. take j (row_of others (place k)))
    → Fills at m mid (mid + 1) ys zs (λ k. v k ∷ []) → Fills at m first end xs zs (λ k. take (j + 1) (row_of others (place k)))
column_next at m first mid end j xs ys zs others x place v last h e is p q =
    fill_next at m first mid end j xs ys zs (λ k. row_of others (place k)) last
    (λ k l. let n : length (row_of others (place k)) ≡ length others = length-map others (λ c. entry c (place k)) in omega (arith, n, h)) v
    (λ k l. is k ∙ sym (map_at (λ c. entry c (place k)) others j x (v k) h e)) p q

pub columns_end : (at m first mid end j : ℕ) (xs ys others : List Column) (place : ℕ → ℕ) → mid ≡ end → length others ≤ j
    → Fills at m first mid xs ys (λ k. take j (row_of others (place k))) → Fills at m first end xs ys (λ k. row_of others (place k))
columns_end at m first mid end j xs ys others place last far p =
    fill_as at m first mid end xs ys (λ k. take j (row_of others (place k))) (λ k. row_of others (place k)) last
    (λ k h. take_all j (row_of others (place k)) (let n : length (row_of others (place k)) ≡ length others = length-map others (λ c. entry c (place k)) in omega (arith, n, far))) p

-- one more of some values, and its type
module _ {X : Type 0} (f : X → Val) (vs : List X) where
  pub type_next : (j : ℕ) (v : X) → j < length vs → v ≡ get_or vs j v → type_at (map type_of (map f vs)) j ≡ type_of (f v)
  type_next j v h e =
      let n : length (map f vs) ≡ length vs = length-map vs f in
      map_at type_of (map f vs) j (f v) kind.Int (omega (arith, n, h)) (sym (map_at f vs j v (f v) h e))

  pub value_next : (at j : ℕ) (xs ys zs : List Column) (v : Val) → j < length vs → v ≡ get_or (map f vs) j v → Fills at 1 0 j xs ys (λ k. take j (map f vs))
      → Fills at 1 j (j + 1) ys zs (λ k. v ∷ []) → Fills at 1 0 (j + 1) xs zs (λ k. take (j + 1) (map f vs))
  value_next at j xs ys zs v h e p q =
      let n : length (map f vs) ≡ length vs = length-map vs f in
      fill_next at 1 0 j (j + 1) j xs ys zs (λ k. map f vs) refl (λ k l. omega (arith, n, h)) (λ k. v) (λ k l. e) p q

  pub held_next : (j : ℕ) (v : Val) → j < length vs → v ≡ get_or (map f vs) j v → list_all is_held (take j (map f vs)) ≡ true → is_held v ≡ true
      → list_all is_held (take (j + 1) (map f vs)) ≡ true
  held_next j v h e p q = let n : length (map f vs) ≡ length vs = length-map vs f in held_more (map f vs) j v (omega (arith, n, h)) e p q

  pub all_held : (j : ℕ) → length vs ≤ j → list_all is_held (take j (map f vs)) ≡ true → list_all is_held (map f vs) ≡ true
  all_held j far p = let n : length (map f vs) ≡ length vs = length-map vs f in ap (list_all is_held) (sym (take_all j (map f vs) (omega (arith, n, far)))) ∙ p

  pub values_end : (at j : ℕ) (xs ys : List Column) → j ≡ length vs → Fills at 1 0 j xs ys (λ k. take j (map f vs)) → Fills at 1 0 (length vs) xs ys (λ k. map f vs)
  values_end at j xs ys e p =
      let n : length (map f vs) ≡ length vs = length-map vs f in
      fill_as at 1 0 j (length vs) xs ys (λ k. take j (map f vs)) (λ k. map f vs) e (λ k h. take_all j (map f vs) (omega (arith, n, e))) p
