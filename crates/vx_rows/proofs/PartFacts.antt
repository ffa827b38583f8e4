-- Tables that are put one behind the other, column by column.
use Rattle.std.proofs.Common.{◌≡◌, ℕ, true, zero, suc, ◌+◌, ◌-◌, ◌<◌, ◌≤◌, List, [], ◌∷◌, ◌++◌, refl, sym, ap, subst, ◌∙◌, length, get_or, take, drop, map, arith, inl, inr, pos}
use Rattle.std.specs.List.{list_all, AllByRecursion}
use Rattle.std.proofs.lemmas.List.{same_lists, length-map, drop_all, take_more, take_all, length-append, get_or_append_left, get_or-append_right, append-nil, get_or_default}
use Rattle.std.proofs.lemmas.Grind.{flat_map-append}
use Rattle.std.proofs.lemmas.Bool.{cases_lt}
use Rattle.vx_rows_values.specs.declared.value.ColType.{ColType}
use Rattle.vx_rows_values.specs.Values.{Row, num, value_at}
use Rattle.vx_rows_values.specs.Types.{type_of, is_held, Fits}
use Rattle.vx_rows.specs.declared.column.Column.{Column}
use Rattle.vx_rows.specs.Columns.{column_type, size, entry, row_of, rows_of, LongTo, AreLong, KeepsFront, KeepRows, Fills}
use Rattle.vx_rows.specs.View.{RowsView, row}
use Rattle.vx_rows.proofs.Below.{all_here, each_below-is}
use Rattle.vx_rows.proofs.Fill.{map_at, same_kinds_length}
use Rattle.vx_rows.proofs.Grown.{Seen, width_seen, Grown, grown}
use Rattle.vx_rows.specs.Parts.{rows_of_all, HaveTypes, HasParts}

-- the first i tables stand in a column, up to `end`
pub record HasFirst (at j i end : ℕ) (parts : List RowsView) (column : Column) : Type 0 where
  pub end_is : end ≡ at + length (rows_of_all (take i parts))
  pub long : end ≤ size column
  pub values : (k : ℕ) → k < length (rows_of_all (take i parts)) → entry column (at + k) ≡ value_at (get_or (rows_of_all (take i parts)) k []) j

rows_next : (parts : List RowsView) (i : ℕ) (part : RowsView) → i < length parts → part ≡ get_or parts i part → rows_of_all (take (i + 1) parts) ≡ rows_of_all (take i parts) ++ part.rows
rows_next parts i part h e =
    ap rows_of_all (take_more parts i part h ∙ ap (λ p. take i parts ++ p ∷ []) (sym e))
    ∙ (flat_map-append (λ (t : RowsView). t.rows) (take i parts) (part ∷ []) ∙ ap (λ l. rows_of_all (take i parts) ++ l) (append-nil part.rows))

module _ (at j i end : ℕ) (parts : List RowsView) (part : RowsView) (old new other : Column) where
  -- one table more
  pub has_next : HasFirst at j i end parts old → i < length parts → part ≡ get_or parts i part → KeepsFront end old new
      → size new ≡ end + (length part.rows - 0) → ((k : ℕ) → k < length part.rows - 0 → entry new (end + k) ≡ entry other (0 + k))
      → ((k : ℕ) → k < length part.rows → entry other k ≡ value_at (row part k) j) → HasFirst at j (i + 1) (size new) parts new
  has_next has near is front long copied values =
      let done = rows_of_all (take i parts) in
      let next = rows_next parts i part near is in
      let many = length-append done part.rows in
      let all = ap length next in
      let end_is = has.end_is in
      record {
        end_is = omega (arith, end_is, long, many, all);
        long = omega arith;
        values = λ k l. elim (cases_lt k (length done)) [
          | inl h ↦
              front.kept (at + k) (omega (arith, end_is, h)) ∙ (has.values k h
              ∙ ap (λ r. value_at r j) (sym (ap (λ rows. get_or rows k []) next ∙ get_or_append_left done part.rows [] k h)))
          | inr h ↦
              let place : at + k ≡ end + (k - length done) = omega (arith, end_is, h) in
              let inside : k - length done < length part.rows = omega (arith, many, all, l, h) in
              let same : 0 + (k - length done) ≡ k - length done = omega arith in
              ap (entry new) place ∙ (copied (k - length done) (omega (arith, inside)) ∙ ap (entry other) same ∙ (values (k - length done) inside
              ∙ ap (λ r. value_at r j) (sym (ap (λ rows. get_or rows k []) next ∙ get_or-append_right done part.rows (length done) k [] refl h))))
        ];
      }

pub kept_on : (at end : ℕ) (first old new : Column) → at ≤ end → KeepsFront at first old → KeepsFront end old new → KeepsFront at first new
kept_on at end first old new h p q = record {
  kind = q.kind ∙ p.kind;
  long = let l = q.long in omega (arith, h, l);
  kept = λ k l. q.kept k (omega (arith, h, l)) ∙ p.kept k l;
}

-- what holds of each column holds of all
pub keep_each : (at : ℕ) (xs ys : List Column) → length ys ≡ length xs → ((i : ℕ) (d : Column) → i < length xs → KeepsFront at (get_or xs i d) (get_or ys i d)) → KeepRows at xs ys
keep_each at [] [] e h = record { kinds = refl; long = λ a k l. absurd (omega arith); kept = λ k l. refl }
keep_each at [] (y ∷ ys) e h = absurd (omega (arith, e))
keep_each at (x ∷ xs) [] e h = absurd (omega (arith, e))
keep_each at (x ∷ xs) (y ∷ ys) e h =
    let front = h 0 x (omega arith) in
    let rest = keep_each at xs ys (omega (arith, e)) (λ i d l. h (suc i) d (omega (arith, l))) in
    record {
      kinds = ap (λ t. t ∷ map column_type ys) front.kind ∙ ap (λ ts. column_type x ∷ ts) rest.kinds;
      long = λ all k l. long_at k l front.long (rest.long (λ i m. all (suc i) (omega (arith, m))));
      kept = λ k l. ap (λ v. v ∷ row_of ys k) (front.kept k l) ∙ ap (λ vs. entry x k ∷ vs) (rest.kept k l);
    }
  where
    long_at : (k : ℕ) → k < length (y ∷ ys) → at ≤ size y → AreLong at ys → at ≤ get_or (map size (y ∷ ys)) k 0
    long_at zero l here there = here
    long_at (suc k) l here there = there k (omega (arith, l))

-- the column at a place
pub size_at : (n : ℕ) (xs : List Column) (i : ℕ) (d : Column) → AreLong n xs → i < length xs → n ≤ size (get_or xs i d)
size_at n xs i d long near =
    let s = map_at size xs i (get_or xs i d) 0 near (get_or_default xs i d (get_or xs i d) near) in
    let l = long i near in
    omega (arith, s, l)

-- the rows of the first i tables were counted, and fit
pub record CountsFirst (at i count : ℕ) (parts : List RowsView) : Type 0 where
  pub is : count ≡ at + length (rows_of_all (take i parts))
  pub fit : (types : List ColType) → HaveTypes types parts → AllByRecursion (Fits types) (rows_of_all (take i parts))

pub long_next : (n i : ℕ) (xs : List Column) (x : Column) → i < length xs → x ≡ get_or xs i x → n ≤ size x → LongTo n i xs → LongTo n (i + 1) xs
long_next n i xs x near here long before k h = elim (cases_lt k i) [
  | inl l ↦ before k l
  | inr g ↦ let e : k ≡ i = omega arith in let s = map_at size xs i x 0 near here in subst (λ p. n ≤ get_or (map size xs) p 0) (sym e) (omega (arith, s, long))
]

at_place : (xs : List Column) (j : ℕ) → j < length xs → (x : Column) × (x ≡ get_or xs j x)
at_place [] j h = absurd (omega arith)
at_place (x ∷ xs) zero h = (x, refl)
at_place (x ∷ xs) (suc j) h = at_place xs j (omega arith)

-- the columns have all rows of these tables, which fit
pub filled_by_parts : (at : ℕ) (types : List ColType) (parts : List RowsView) (xs ys : List Column) → length ys ≡ length types → AreLong (at + length (rows_of_all parts)) ys
    → AllByRecursion (Fits types) (rows_of_all parts) → ((j : ℕ) (d : Column) → j < length ys → HasParts at j parts (get_or ys j d))
    → Fills at (length (rows_of_all parts)) 0 (length types) xs ys (λ k. get_or (rows_of_all parts) k [])
filled_by_parts at types parts xs ys wide long fit has = record {
  long = λ _ k h. long k (omega (arith, wide, h));
  values = λ k h.
      let rows = rows_of_all parts in
      let new = row_of ys (at + k) in
      let target = get_or rows k [] in
      let n : length new ≡ length ys = length-map ys (λ c. entry c (at + k)) in
      let fits = all_here (Fits types) rows fit k [] h in
      let m : length target ≡ length types = sym (length-map target type_of) ∙ ap length fits.types_are in
      take_all (length types) new (omega (arith, n, wide))
      ∙ same_lists new target (n ∙ (wide ∙ sym m)) (λ j d near.
      let there : j < length ys = omega (arith, n, near) in
      let x = at_place ys j there in
      let value = (has j x.0 there).values k h in
      map_at (λ c. entry c (at + k)) ys j x.0 d there x.1
      ∙ (ap (λ c. entry c (at + k)) x.1 ∙ (value ∙ get_or_default target j (num (pos 0)) d (omega (arith, m, wide, there)))));
}

pub held_row : (types : List ColType) (rows : List Row) → AllByRecursion (Fits types) rows → (k : ℕ) → k < length rows → list_all is_held (get_or rows k []) ≡ true
held_row types rows fit k h = (all_here (Fits types) rows fit k [] h).values_are

written_back : {X : Type 0} (n : ℕ) (old new : List X) → n ≡ length old → length new ≡ length old → take n (new ++ drop (length new) old) ≡ new
written_back n old new e many =
    ap (λ rest. take n (new ++ rest)) (drop_all (length new) old (omega (arith, many))) ∙ (ap (take n) (append-nil new) ∙ take_all n new (omega (arith, e, many)))

-- what threads left of columns that were lent to them
pub record Lent (at : ℕ) (parts : List RowsView) (xs ys : List Column) : Type 0 where
  pub keep : KeepRows at xs ys
  pub has : AreLong (at + length (rows_of_all parts)) ys → (j : ℕ) (d : Column) → j < length ys → HasParts at j parts (get_or ys j d)

pub lent_back : (at n : ℕ) (parts : List RowsView) (given xs ys : List Column) → given ≡ xs → n ≡ length xs → length ys ≡ length given
    → ((j : ℕ) (d : Column) → j < length given → KeepsFront at (get_or given j d) (get_or ys j d))
    → ((j : ℕ) (d : Column) → j < length given → at + length (rows_of_all parts) ≤ size (get_or ys j d) → HasParts at j parts (get_or ys j d))
    → Lent at parts xs (take n (ys ++ drop (length ys) xs))
lent_back at n parts given xs ys is e many front all =
    let same = ap length is in
    let few : length ys ≡ length xs = omega (arith, many, same) in
    subst (Lent at parts xs) (sym (written_back n xs ys e few)) (record {
      keep = keep_each at xs ys few (λ j d near. subst (λ zs. KeepsFront at (get_or zs j d) (get_or ys j d)) is (front j d (omega (arith, near, same))));
      has = λ long j d near. all j d (omega (arith, many, near)) (size_at _ ys j d long near);
    })

-- the columns after all rows of these tables were added
pub grown_by_parts : {t : RowsView} {types : List ColType} {at : ℕ} {xs : List Column} → Seen t types at xs → (count : ℕ) (parts : List RowsView) (ys : List Column) → Lent at parts xs ys
    → AreLong count ys → count ≡ at + length (rows_of_all parts) → AllByRecursion (Fits t.types) (rows_of_all parts)
    → Grown t types count (length (rows_of_all parts)) ys (λ k. get_or (rows_of_all parts) k [])
grown_by_parts {t} {types} {at} {xs} s count parts ys lent long e fit =
    let all = subst (λ n. AreLong n ys) e long in
    let wide : length ys ≡ length t.types = same_kinds_length at xs ys lent.keep ∙ width_seen s in
    grown s (length (rows_of_all parts)) (length t.types) count ys (λ k. get_or (rows_of_all parts) k []) lent.keep refl
    (filled_by_parts at t.types parts xs ys wide all fit (lent.has all)) (λ k h. held_row t.types (rows_of_all parts) fit k h) e

pub grown_rows : {t : RowsView} {types : List ColType} {count : ℕ} {ys : List Column} (parts : List RowsView) → Grown t types count (length (rows_of_all parts)) ys (λ k. get_or (rows_of_all parts) k [])
    → rows_of count ys ≡ t.rows ++ rows_of_all parts
grown_rows {t} parts g = g.rows ∙ ap (λ r. t.rows ++ r) (each_below-is (rows_of_all parts) [])
