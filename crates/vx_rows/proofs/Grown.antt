-- Rows as a caller sees them, and what is seen of them after a write.
use Rattle.std.proofs.Common.{◌≡◌, ℕ, true, ◌+◌, ◌-◌, ◌<◌, ◌≤◌, List, [], ◌∷◌, ◌++◌, sym, ap, ◌∙◌, subst, length, get_or, map, arith}
use Rattle.std.specs.Prelude.{slice_range}
use Rattle.std.specs.List.{list_all, AllByRecursion}
use Rattle.std.proofs.lemmas.List.{length-map}
use Rattle.vx_rows_values.specs.declared.value.ColType.{ColType}
use Rattle.vx_rows.specs.declared.column.Column.{Column}
use Rattle.vx_rows_values.specs.Values.{Val, Row}
use Rattle.vx_rows.specs.Lists.{each_below}
use Rattle.vx_rows_values.specs.Types.{type_of, is_held, Fits}
use Rattle.vx_rows.specs.Columns.{size, row_of, rows_of, KeepRows, Fills, AreRows}
use Rattle.vx_rows.specs.View.{RowsView, row, ArePositions}
use Rattle.vx_rows.proofs.Below.{each_below-one, slice_range-each_below}
use Rattle.vx_rows.proofs.Fill.{viewed, all_fit, rows_are, types_are, width_is, count_is, row_is, same_rows, more_rows, now_rows, each_at}

-- the first n rows of these columns are those of a table
pub record Seen (t : RowsView) (types : List ColType) (n : ℕ) (xs : List Column) : Type 0 where
  pub is : viewed types n xs ≡ t
  pub are : AreRows types n xs

pub seen : {t : RowsView} {types : List ColType} {n : ℕ} {xs : List Column} → viewed types n xs ≡ t → AreRows types n xs → Seen t types n xs
seen e a = record { is = e; are = a }

module _ {t : RowsView} {types : List ColType} {n : ℕ} {xs : List Column} (s : Seen t types n xs) where
  pub count_seen : length t.rows ≡ n
  count_seen = count_is n xs t.rows (rows_are t types n xs s.is)

  pub width_seen : length xs ≡ length t.types
  width_seen = width_is types xs s.are.kinds ∙ ap length (types_are t types n xs s.is)

  -- each column is as long
  pub long_seen : (k : ℕ) → k < length xs → length t.rows ≤ get_or (map size xs) k 0
  long_seen k h = let c = count_seen in let l = s.are.long k h in omega (arith, c, l)

  pub row_seen : (i : ℕ) → i < length t.rows → row_of xs i ≡ get_or t.rows i []
  row_seen i h = sym (row_is n xs t.rows (rows_are t types n xs s.is) i h)

  pub held_seen : (i : ℕ) → i < length t.rows → list_all is_held (row_of xs i) ≡ true
  held_seen i h = let c = count_seen in s.are.held i (omega (arith, c, h))

  pub fit_seen : AllByRecursion (Fits t.types) t.rows
  fit_seen = subst (λ (r : RowsView). AllByRecursion (Fits r.types) r.rows) s.is (all_fit types n xs s.are.kinds s.are.held)

  -- a write that was refused leaves what is seen
  pub still_seen : (ys : List Column) → KeepRows n xs ys → rows_of n ys ≡ t.rows
  still_seen ys p = same_rows n xs ys p ∙ rows_are t types n xs s.is

-- the columns after a write that filled m rows, and what is seen of them
pub record Grown (t : RowsView) (types : List ColType) (count m : ℕ) (ys : List Column) (f : ℕ → Row) : Type 0 where
  pub are : AreRows types count ys
  pub rows : rows_of count ys ≡ t.rows ++ each_below m f

pub grown : {t : RowsView} {types : List ColType} {at : ℕ} {xs : List Column} → Seen t types at xs → (m n count : ℕ) (ys : List Column) (f : ℕ → Row) → KeepRows at xs ys → n ≡ length t.types
    → Fills at m 0 n xs ys f → ((k : ℕ) → k < m → list_all is_held (f k) ≡ true) → count ≡ at + m → Grown t types count m ys f
grown {t} {types} {at} {xs} s m n count ys f p e q held c =
    let w : n ≡ length xs = e ∙ sym (width_seen s) in
    record {
      are = now_rows types at m n count xs ys f s.are p w q held c;
      rows = ap (λ i. rows_of i ys) c ∙ (more_rows at m n xs ys f p w q ∙ ap (λ l. l ++ each_below m f) (rows_are t types at xs s.is));
    }

-- one row more
pub grown_one : {t : RowsView} {types : List ColType} {count : ℕ} {ys : List Column} {x : Row} → Grown t types count 1 ys (λ _. x) → (r : Row) → x ≡ r → rows_of count ys ≡ t.rows ++ r ∷ []
grown_one {t} {types} {count} {ys} {x} g r e = g.rows ∙ (ap (λ l. t.rows ++ l) (each_below-one (λ _. x)) ∙ ap (λ v. t.rows ++ v ∷ []) e)

-- a part of others' rows more
pub grown_part : {t r : RowsView} {types kinds : List ColType} {count many : ℕ} {ys others : List Column} (from to : ℕ)
    → Grown t types count (to - from) ys (λ k. row_of others (from + k)) → Seen r kinds many others
    → from ≤ to → to ≤ length r.rows → rows_of count ys ≡ t.rows ++ slice_range r.rows from to
grown_part {t} {r} {types} {kinds} {count} {many} {ys} {others} from to g o h l =
    let c = count_seen o in
    g.rows
    ∙ ap (λ rows. t.rows ++ rows)
    (sym (slice_range-each_below many from to (row_of others) h (omega (arith, c, l))) ∙ ap (λ rows. slice_range rows from to) (rows_are r kinds many others o.is))

-- rows of others at some positions more
pub grown_at : {t r : RowsView} {types kinds : List ColType} {count many : ℕ} {ys others : List Column} (positions : List ℕ)
    → Grown t types count (length positions) ys (λ k. row_of others (get_or positions k 0)) → Seen r kinds many others
    → ArePositions (length r.rows) positions → rows_of count ys ≡ t.rows ++ map (row r) positions
grown_at {t} {r} {types} {kinds} {count} {many} {ys} {others} positions g o there =
    g.rows ∙ ap (λ rows. t.rows ++ rows) (each_at (row_of others) (row r) positions (length r.rows) there (λ i h. row_seen o i h))

-- one value of each type
pub width_of : {X : Type 0} (f : X → Val) (xs : List X) (types : List ColType) → map type_of (map f xs) ≡ types → length xs ≡ length types
width_of f xs types e = sym (length-map xs f) ∙ (sym (length-map (map f xs) type_of) ∙ ap length e)
