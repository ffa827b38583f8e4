-- Columns that are written one after another.
use Rattle.std.proofs.Common.{◌≡◌, ℕ, true, zero, suc, ◌+◌, ◌-◌, ◌<◌, ◌≤◌, List, [], ◌∷◌, ◌++◌, refl, sym, ap, ◌∙◌, subst, length, get_or, take, map, arith, inl, inr, append_assoc}
use Rattle.std.specs.Prelude.{Result, Ok, Err, OnErr}
use Rattle.std.specs.List.{list_all, AllByRecursion}
use Rattle.std.specs.Prelude.{All}
use Rattle.std.proofs.lemmas.List.{same_lists, get_or_default}
use Rattle.std.proofs.lemmas.List.Folds.{list_all-append, list_all_more}
use Rattle.std.proofs.lemmas.Bool.{cases_lt}
use Rattle.vx_rows_values.proofs.Booleans.{and-both}
use Rattle.std.proofs.lemmas.List.{map-set, length-set, length-map, get_or-set_same, get_or-set_other, take_more, take_more_set, take_all}
use Rattle.std.proofs.Math.ListN.{set}
use Rattle.std.proofs.Common.{◌≢◌}
use Rattle.std.proofs.lemmas.Bool.{cases_eq}
use Rattle.vx_rows_values.specs.declared.value.ColType.{ColType}
use Rattle.vx_rows.specs.declared.column.Column.{Column}
use Rattle.vx_rows.specs.declared.column.Column.TheVariants as column
use Rattle.vx_rows_values.specs.Values.{Val, Row}
use Rattle.vx_rows.specs.Lists.{each_below}
use Rattle.vx_rows_values.specs.Types.{type_of, is_held, Fits}
use Rattle.vx_rows.specs.Columns.{column_type, size, entry, row_of, rows_of, AreLong, KeepsFront, KeepRows, Fills, AreRows, AreHeld}
use Rattle.vx_rows.specs.View.{RowsView}
use Rattle.vx_rows.proofs.Below.{length-each_below, get_or-each_below, each_below-ext, each_below-more}

abbrev pub viewed : List ColType → ℕ → List Column → RowsView
viewed types n xs = record { types = types; rows = rows_of n xs }

-- a read element under a map
pub map_at : {X Y : Type 0} (f : X → Y) (xs : List X) (j : ℕ) (x : X) (d : Y) → j < length xs → x ≡ get_or xs j x → get_or (map f xs) j d ≡ f x
map_at f [] j x d h e = absurd (omega arith)
map_at f (y ∷ xs) zero x d h e = ap f (sym e)
map_at f (y ∷ xs) (suc j) x d h e = map_at f xs j x d (omega arith) e

-- a write that a map does not see
pub same_map : {X Y : Type 0} (f : X → Y) (xs : List X) (j : ℕ) (new old : X) → j < length xs → old ≡ get_or xs j old → f new ≡ f old → map f (set xs j new) ≡ map f xs
same_map f [] j new old h e p = refl
same_map f (y ∷ xs) zero new old h e p = ap (λ z. z ∷ map f xs) (p ∙ ap f e)
same_map f (y ∷ xs) (suc j) new old h e p = ap (λ zs. f y ∷ zs) (same_map f xs j new old (omega arith) e p)

-- one column is written
pub long_set : (n : ℕ) (xs : List Column) (j k : ℕ) (new : Column) → j < length xs → n ≤ size new → (k ≢ j → n ≤ get_or (map size xs) k 0) → n ≤ get_or (map size (set xs j new)) k 0
long_set n xs j k new h s other =
    let e : length (map size xs) ≡ length xs = length-map xs size in
    let m : get_or (map size (set xs j new)) k 0 ≡ get_or (set (map size xs) j (size new)) k 0 = ap (λ (l : List ℕ). get_or l k 0) (map-set size xs j new) in
    elim (cases_eq k j) [
      | inl p ↦
          let a : get_or (set (map size xs) j (size new)) k 0 ≡ size new = ap (λ i. get_or (set (map size xs) j (size new)) i 0) p ∙ get_or-set_same (map size xs) j (size new) 0 (omega arith) in
          omega (arith, m, a)
      | inr p ↦ let a = get_or-set_other (map size xs) j k (size new) 0 p in let b = other p in omega (arith, m, a, b)
    ]

pub keep_set : (at : ℕ) (xs : List Column) (j : ℕ) (old new : Column) → j < length xs → old ≡ get_or xs j old → KeepsFront at old new → KeepRows at xs (set xs j new)
keep_set at xs j old new h e front = record {
  kinds = same_map column_type xs j new old h e front.kind;
  long = λ all k near. long_set at xs j k new h front.long (λ _. all k (let n = length-set xs j new in omega (arith, n)));
  kept = λ k near. same_map (λ c. entry c k) xs j new old h e (front.kept k near);
}

pub fill_set : (at m : ℕ) (xs : List Column) (j : ℕ) (new : Column) (f : ℕ → Val) → j < length xs → at + m ≤ size new → ((k : ℕ) → k < m → entry new (at + k) ≡ f k) → Fills at m j (j + 1) xs (set xs j new) (λ k. f k ∷ [])
fill_set at m xs j new f h s v = record {
  long = λ all k near. long_set (at + m) xs j k new h s (λ p. all k (omega arith));
  values = λ k near.
      let n : length (row_of xs (at + k)) ≡ length xs = length-map xs (λ c. entry c (at + k)) in
      ap (λ l. take (j + 1) l) (map-set (λ c. entry c (at + k)) xs j new)
      ∙ (take_more_set (row_of xs (at + k)) j (entry new (at + k)) (omega arith) ∙ ap (λ x. take j (row_of xs (at + k)) ++ x ∷ []) (v k near));
}

pub keep_more : (at : ℕ) (xs ys zs : List Column) → KeepRows at xs ys → KeepRows at ys zs → KeepRows at xs zs
keep_more at xs ys zs p q = record {
  kinds = q.kinds ∙ p.kinds;
  long = λ a. q.long (p.long a);
  kept = λ k h. q.kept k h ∙ p.kept k h;
}

pub fill_more : (at m first mid last : ℕ) (xs ys zs : List Column) (f g h : ℕ → List Val) → Fills at m first mid xs ys f → Fills at m mid last ys zs g
    → ((k : ℕ) → k < m → f k ++ g k ≡ h k) → Fills at m first last xs zs h
fill_more at m first mid last xs ys zs f g h p q e = record {
  long = λ a. q.long (p.long a);
  values = λ k near.
      q.values k near ∙ (ap (λ l. l ++ g k) (p.values k near) ∙ (append_assoc (take first (row_of xs (at + k))) (f k) (g k) ∙ ap (λ l. take first (row_of xs (at + k)) ++ l) (e k near)));
}

-- the same, under other names for the same numbers
pub fill_as : (at m first last end : ℕ) (xs ys : List Column) (f g : ℕ → List Val) → last ≡ end → ((k : ℕ) → k < m → f k ≡ g k) → Fills at m first last xs ys f → Fills at m first end xs ys g
fill_as at m first last end xs ys f g e h p =
    subst (λ i. Fills at m first i xs ys g) e (record { long = p.long; values = λ k near. p.values k near ∙ ap (λ l. take first (row_of xs (at + k)) ++ l) (h k near) })

-- one more column of rows that are known
pub fill_next : (at m first mid end j : ℕ) (xs ys zs : List Column) (target : ℕ → List Val) → mid + 1 ≡ end → ((k : ℕ) → k < m → j < length (target k)) → (x : ℕ → Val) → ((k : ℕ) → k < m → x k ≡ get_or (target k) j (x k))
    → Fills at m first mid xs ys (λ k. take j (target k)) → Fills at m mid (mid + 1) ys zs (λ k. x k ∷ []) → Fills at m first end xs zs (λ k. take (j + 1) (target k))
fill_next at m first mid end j xs ys zs target e near x is p q =
    fill_as at m first (mid + 1) end xs zs (λ k. take (j + 1) (target k)) (λ k. take (j + 1) (target k)) e (λ k h. refl)
    (fill_more at m first mid (mid + 1) xs ys zs (λ k. take j (target k)) (λ k. x k ∷ []) (λ k. take (j + 1) (target k)) p q
    (λ k h. ap (λ v. take j (target k) ++ v ∷ []) (is k h) ∙ sym (take_more (target k) j (x k) (near k h))))

-- what is said of rows
pub same_rows : (at : ℕ) (xs ys : List Column) → KeepRows at xs ys → rows_of at ys ≡ rows_of at xs
same_rows at xs ys p = each_below-ext at (row_of ys) (row_of xs) p.kept

pub same_kinds_length : (at : ℕ) (xs ys : List Column) → KeepRows at xs ys → length ys ≡ length xs
same_kinds_length at xs ys p = sym (length-map ys column_type) ∙ (ap length p.kinds ∙ length-map xs column_type)

pub more_rows : (at m n : ℕ) (xs ys : List Column) (f : ℕ → List Val) → KeepRows at xs ys → n ≡ length xs → Fills at m 0 n xs ys f → rows_of (at + m) ys ≡ rows_of at xs ++ each_below m f
more_rows at m n xs ys f p e q =
    each_below-more at m (row_of ys) (row_of xs) f p.kept (λ k h.
    let l : length (row_of ys (at + k)) ≡ length ys = length-map ys (λ c. entry c (at + k)) in
    let s = same_kinds_length at xs ys p in
    sym (take_all n (row_of ys (at + k)) (omega (arith, l, s, e))) ∙ q.values k h)

pub more_long : (at m n : ℕ) (xs ys : List Column) (f : ℕ → List Val) → KeepRows at xs ys → n ≡ length xs → Fills at m 0 n xs ys f → AreLong (at + m) ys
more_long at m n xs ys f p e q =
    let s = same_kinds_length at xs ys p in
    λ k h. q.long (λ j l. absurd (omega arith)) k (omega (arith, s, e))

pub row_is : (n : ℕ) (xs : List Column) (t : List Row) → rows_of n xs ≡ t → (i : ℕ) → i < length t → get_or t i [] ≡ row_of xs i
row_is n xs t e i h =
    let l = length-each_below n (row_of xs) in
    let m = ap length e in
    ap (λ (r : List Row). get_or r i []) (sym e) ∙ get_or-each_below n (row_of xs) i [] (omega (arith, l, m))

pub count_is : (n : ℕ) (xs : List Column) (t : List Row) → rows_of n xs ≡ t → length t ≡ n
count_is n xs t e = ap length (sym e) ∙ length-each_below n (row_of xs)

pub on_err_any : {T E : Type 0} (r : Result T E) {P : Type 0} → P → OnErr r P
on_err_any (Ok x) p = tt
on_err_any (Err e) p = p

pub rows_are : (r : RowsView) (types : List ColType) (n : ℕ) (xs : List Column) → viewed types n xs ≡ r → rows_of n xs ≡ r.rows
rows_are r types n xs e = ap (λ (t : RowsView). t.rows) e

pub types_are : (r : RowsView) (types : List ColType) (n : ℕ) (xs : List Column) → viewed types n xs ≡ r → types ≡ r.types
types_are r types n xs e = ap (λ (t : RowsView). t.types) e

pub width_is : (types : List ColType) (xs : List Column) → map column_type xs ≡ types → length xs ≡ length types
width_is types xs e = sym (length-map xs column_type) ∙ ap length e

pub still_rows : (types : List ColType) (at : ℕ) (xs ys : List Column) → AreRows types at xs → KeepRows at xs ys → AreRows types at ys
still_rows types at xs ys a p = record {
  kinds = p.kinds ∙ a.kinds;
  long = p.long a.long;
  held = λ k h. ap (list_all is_held) (p.kept k h) ∙ a.held k h;
}

-- a row that was filled
pub filled : (at m n : ℕ) (xs ys : List Column) (f : ℕ → List Val) → KeepRows at xs ys → n ≡ length xs → Fills at m 0 n xs ys f → (k : ℕ) → k < m → row_of ys (at + k) ≡ f k
filled at m n xs ys f p e q k h =
    let l : length (row_of ys (at + k)) ≡ length ys = length-map ys (λ c. entry c (at + k)) in
    let s = same_kinds_length at xs ys p in
    sym (take_all n (row_of ys (at + k)) (omega (arith, l, s, e))) ∙ q.values k h

more_held : (types : List ColType) (at m n : ℕ) (xs ys : List Column) (f : ℕ → List Val) → AreRows types at xs → KeepRows at xs ys → n ≡ length xs → Fills at m 0 n xs ys f
    → ((k : ℕ) → k < m → list_all is_held (f k) ≡ true) → AreHeld (at + m) ys
more_held types at m n xs ys f a p e q held k h =
    elim (cases_lt k at) [
      | inl l ↦ ap (list_all is_held) (p.kept k l) ∙ a.held k l
      | inr g ↦
          let d : at + (k - at) ≡ k = omega arith in
          ap (λ i. list_all is_held (row_of ys i)) (sym d) ∙ (ap (list_all is_held) (filled at m n xs ys f p e q (k - at) (omega arith)) ∙ held (k - at) (omega arith))
    ]

pub now_rows : (types : List ColType) (at m n count : ℕ) (xs ys : List Column) (f : ℕ → List Val) → AreRows types at xs → KeepRows at xs ys → n ≡ length xs → Fills at m 0 n xs ys f
    → ((k : ℕ) → k < m → list_all is_held (f k) ≡ true) → count ≡ at + m → AreRows types count ys
now_rows types at m n count xs ys f a p e q held c = record {
  kinds = p.kinds ∙ a.kinds;
  long = subst (λ i. AreLong i ys) (sym c) (more_long at m n xs ys f p e q);
  held = subst (λ i. AreHeld i ys) (sym c) (more_held types at m n xs ys f a p e q held);
}

-- picked and joined values are held
pub held_append : (xs ys : List Val) → list_all is_held xs ≡ true → list_all is_held ys ≡ true → list_all is_held (xs ++ ys) ≡ true
held_append xs ys h k = list_all-append is_held xs ys ∙ and-both _ _ h k

-- one more value is held
pub held_more : (row : Row) (j : ℕ) (v : Val) → j < length row → v ≡ get_or row j v → list_all is_held (take j row) ≡ true → is_held v ≡ true → list_all is_held (take (j + 1) row) ≡ true
held_more row j v near e h k = list_all_more is_held row j v near ∙ and-both _ _ h (ap is_held (sym e) ∙ k)

-- rows that are written are seen, and fit
pub all_fit : (types : List ColType) (n : ℕ) (xs : List Column) → map column_type xs ≡ types → AreHeld n xs → AllByRecursion (Fits types) (rows_of n xs)
unfolding each_below
all_fit types zero xs e h = tt
all_fit types (suc n) xs e h =
    fit_push (rows_of n xs) (row_of xs n) (all_fit types n xs e (λ k l. h k (omega arith))) (record { types_are = types_of xs n ∙ e; values_are = h n (omega arith) })
  where
    fit_push : (rows : List Row) (row : Row) → AllByRecursion (Fits types) rows → Fits types row → AllByRecursion (Fits types) (rows ++ row ∷ [])
    fit_push [] row h f = (f, tt)
    fit_push (x ∷ xs) row h f = (h.0, fit_push xs row h.1 f)

    type_of_entry : (c : Column) (k : ℕ) → type_of (entry c k) ≡ column_type c
    type_of_entry (column.Int v) k = refl
    type_of_entry (column.Text t) k = refl

    types_of : (xs : List Column) (k : ℕ) → map type_of (row_of xs k) ≡ map column_type xs
    types_of [] k = refl
    types_of (c ∷ xs) k = λ i. type_of_entry c k i ∷ types_of xs k i

-- rows of others at some positions
pub each_at : {X : Type 0} (f g : ℕ → X) (positions : List ℕ) (n : ℕ) → All (λ i. i < n) positions → ((i : ℕ) → i < n → f i ≡ g i) → each_below (length positions) (λ k. f (get_or positions k 0)) ≡ map g positions
each_at f g positions n all h =
    let l = length-each_below (length positions) (λ k. f (get_or positions k 0)) in
    same_lists _ _ (l ∙ sym (length-map positions g)) (λ k d near.
    let small : k < length positions = omega (arith, l, near) in
    get_or-each_below (length positions) (λ j. f (get_or positions j 0)) k d small
    ∙ (h (get_or positions k 0) (all k 0 small) ∙ sym (map_at g positions k (get_or positions k 0) d small (get_or_default positions k 0 (get_or positions k 0) small))))

pub no_rows : (xs : List Column) → rows_of 0 xs ≡ []
unfolding each_below
no_rows xs = refl
