-- Rows that get one value after another.
use Rattle.std.proofs.Common.{◌≡◌, ℕ, true, ◌+◌, ◌<◌, ◌≤◌, List, [], ◌∷◌, ◌++◌, refl, sym, ap, ◌∙◌, subst, length, get_or, take, map, arith, inl, inr}
use Rattle.std.specs.List.{list_all}
use Rattle.std.proofs.lemmas.Bool.{cases_lt}
use Rattle.std.proofs.lemmas.List.{length-map, length-take-le, take-map, take_all, get_or-take}
use Rattle.vx_rows_values.specs.declared.value.ColType.{ColType}
use Rattle.vx_rows.specs.declared.column.Column.{Column}
use Rattle.vx_rows_values.specs.Values.{Val}
use Rattle.vx_rows_values.specs.Types.{is_held}
use Rattle.vx_rows.specs.Columns.{size, entry, row_of, rows_of, LongTo, KeepRows, Fills}
use Rattle.vx_rows.specs.Open.{Opened, front_of, AreOpen}
use Rattle.vx_rows.proofs.Below.{each_below-next}
use Rattle.vx_rows_values.proofs.Booleans.{and-both}
use Rattle.vx_rows.proofs.Fill.{held_append, same_kinds_length, still_rows, width_is}

abbrev pub viewed_open : List ColType → ℕ → ℕ → List Column → Opened
viewed_open types n m xs = record { types = types; rows = rows_of n xs; front = front_of m n xs }

-- what is seen of the fields
pub open_types : (r : Opened) (types : List ColType) (n m : ℕ) (xs : List Column) → viewed_open types n m xs ≡ r → types ≡ r.types
open_types r types n m xs e = ap (λ (o : Opened). o.types) e

pub open_rows : (r : Opened) (types : List ColType) (n m : ℕ) (xs : List Column) → viewed_open types n m xs ≡ r → rows_of n xs ≡ r.rows
open_rows r types n m xs e = ap (λ (o : Opened). o.rows) e

pub open_front : (r : Opened) (types : List ColType) (n m : ℕ) (xs : List Column) → viewed_open types n m xs ≡ r → front_of m n xs ≡ r.front
open_front r types n m xs e = ap (λ (o : Opened). o.front) e

pub front_length : (m i : ℕ) (xs : List Column) → m ≤ length xs → length (front_of m i xs) ≡ m
front_length m i xs h = let e : length (row_of xs i) ≡ length xs = length-map xs (λ c. entry c i) in length-take-le m (row_of xs i) (omega (arith, e))

-- the front ends at the last column where it is as long as the types
pub front_ends : (r : Opened) (types : List ColType) (n m : ℕ) (xs : List Column) → viewed_open types n m xs ≡ r → AreOpen types n m xs → length r.front ≡ length r.types → m ≡ length xs
front_ends r types n m xs e a h =
    let w = width_is types xs a.rows.kinds in
    let t = ap length (open_types r types n m xs e) in
    let f = ap length (open_front r types n m xs e) in
    let l = front_length m n xs a.room in
    omega (arith, w, t, f, l, h)

-- columns before the written one stay
pub same_front : (m i : ℕ) (xs ys : List Column) → take m ys ≡ take m xs → front_of m i ys ≡ front_of m i xs
same_front m i xs ys e = take-map (λ c. entry c i) m ys ∙ (ap (map (λ c. entry c i)) e ∙ sym (take-map (λ c. entry c i) m xs))

same_long : (n m : ℕ) (xs ys : List Column) → take m ys ≡ take m xs → LongTo n m xs → LongTo n m ys
same_long n m xs ys e h =
    let s : take m (map size ys) ≡ take m (map size xs) = take-map size m ys ∙ (ap (map size) e ∙ sym (take-map size m xs)) in
    λ k near.
    let same : get_or (map size ys) k 0 ≡ get_or (map size xs) k 0 = sym (get_or-take m (map size ys) k 0 near) ∙ (ap (λ (l : List ℕ). get_or l k 0) s ∙ get_or-take m (map size xs) k 0 near) in
    let l = h k near in
    omega (arith, same, l)

-- a value was refused
pub still_open : (types : List ColType) (count filled : ℕ) (xs ys : List Column) → AreOpen types count filled xs → KeepRows count xs ys → take filled ys ≡ take filled xs → AreOpen types count filled ys
still_open types count filled xs ys a p e =
    let s = same_kinds_length count xs ys p in
    let room = a.room in
    record {
      rows = still_rows types count xs ys a.rows p;
      room = omega (arith, s, room);
      long = same_long (count + 1) filled xs ys e a.long;
      held = ap (list_all is_held) (same_front filled count xs ys e) ∙ a.held;
    }

-- a value was added
pub front_more : (count filled : ℕ) (xs ys : List Column) (v : Val) → Fills count 1 filled (filled + 1) xs ys (λ _. v ∷ []) → front_of (filled + 1) count ys ≡ front_of filled count xs ++ v ∷ []
front_more count filled xs ys v q =
    let e : count + 0 ≡ count = omega arith in
    subst (λ i. take (filled + 1) (row_of ys i) ≡ take filled (row_of xs i) ++ v ∷ []) e (q.values 0 (omega arith))

pub now_open : (types : List ColType) (count filled next : ℕ) (xs ys : List Column) (v : Val) → AreOpen types count filled xs → KeepRows count xs ys → filled < length xs
    → Fills count 1 filled (filled + 1) xs ys (λ _. v ∷ []) → is_held v ≡ true → next ≡ filled + 1 → AreOpen types count next ys
now_open types count filled next xs ys v a p h q held e =
    let s = same_kinds_length count xs ys p in
    record {
      rows = still_rows types count xs ys a.rows p;
      room = omega (arith, s, h, e);
      long = subst (λ i. LongTo (count + 1) i ys) (sym e) (q.long a.long);
      held = ap (λ i. list_all is_held (front_of i count ys)) e
          ∙ (ap (list_all is_held) (front_more count filled xs ys v q) ∙ held_append (front_of filled count xs) (v ∷ []) a.held (and-both _ _ held refl));
    }

-- the front is the next row
front_whole : (i : ℕ) (m : ℕ) (xs : List Column) → m ≡ length xs → front_of m i xs ≡ row_of xs i
front_whole i m xs e = let l : length (row_of xs i) ≡ length xs = length-map xs (λ c. entry c i) in take_all m (row_of xs i) (omega (arith, l, e))

pub rows_ended : (count filled next : ℕ) (xs : List Column) → filled ≡ length xs → next ≡ count + 1 → rows_of next xs ≡ rows_of count xs ++ front_of filled count xs ∷ []
rows_ended count filled next xs e n =
    ap (λ i. rows_of i xs) n ∙ (each_below-next count (row_of xs) ∙ ap (λ r. rows_of count xs ++ r ∷ []) (sym (front_whole count filled xs e)))

pub row_ended : (types : List ColType) (count filled next : ℕ) (xs : List Column) → AreOpen types count filled xs → filled ≡ length xs → next ≡ count + 1 → AreOpen types next 0 xs
row_ended types count filled next xs a e n = record {
  rows = record {
    kinds = a.rows.kinds;
    long = λ k near. let l = a.long k (omega (arith, near, e)) in omega (arith, l, n);
    held = λ k near. elim (cases_lt k count) [
      | inl l ↦ a.rows.held k l
      | inr g ↦ let same : k ≡ count = omega (arith, near, g, n) in ap (λ i. list_all is_held (row_of xs i)) same ∙ (ap (list_all is_held) (sym (front_whole count filled xs e)) ∙ a.held)
    ];
  };
  room = omega arith;
  long = λ k near. absurd (omega (arith, near));
  held = refl;
}
