-- A merge of two inputs that are both in order on their columns, in the same directions: the right rows that have the key of the last left row stand side by side.
use Rattle.std.specs.Prelude.{◌≡◌, ◌<◌, ◌+◌, ℕ, Bool, true, false, cond, List, [], ◌∷◌, ◌++◌, length, map, zip, take, flat_map, slice_range, nat_lt}
use Rattle.std.specs.List.{list_all}
use Rattle.std.specs.Ordering.{is_gt}
use Rattle.vx_rows_values.specs.declared.order.OrderEntry.{OrderEntry}
use Rattle.vx_rows_values.specs.Values.{Row, row_eq}
use Rattle.vx_rows_values.specs.Order.{order_columns, sorted}
use Rattle.vx_rows.specs.View.{RowsView, row}
use Rattle.vx_plan_nodes.specs.Serial.{of_key}
use Rattle.vx_match_keys.specs.Matched.{matched}
use Rattle.vx_match_merging.specs.Keys.{directions, key_of, key_cmp}
use Rattle.vx_match_merging.specs.declared.merging.MergeFault.{MergeFault}
use Rattle.vx_match_merging.specs.declared.merging.MergeFault.TheVariants.{Falls, NoMemory}
use Rattle.vx_match_merging.specs.declared.merging.MergeNeed.{MergeNeed}
use Rattle.vx_match_merging.specs.declared.merging.MergeNeed.TheVariants as need

-- the orders of both inputs, the key of the last left row, and where in the right input the run of that key starts and
-- ends
pub record MergeState : Type 0 where
  pub lefts : List OrderEntry
  pub rights : List OrderEntry
  pub key : Row
  pub start : ℕ
  pub end : ℕ

-- the key of the last row; of no rows the empty one, which is above no other
abbrev pub last_key : List OrderEntry → List Row → Row
last_key by [] = []
last_key by (x ∷ []) = key_of by x
last_key by (x ∷ y ∷ ys) = last_key by (y ∷ ys)

-- these left and right rows were added, and no others: both rise in their orders, which have the same directions, and the right ones
-- are those below the key, and then the run
pub record HasMerged (m : MergeState) (ls rs : List Row) : Type 0 where
  pub before : List Row
  pub run : List Row
  pub alike : directions m.lefts ≡ directions m.rights
  pub left_rises : sorted m.lefts ls ≡ true
  pub right_rises : sorted m.rights rs ≡ true
  pub key_is : m.key ≡ last_key m.lefts ls
  pub parts : rs ≡ before ++ run
  pub start_is : m.start ≡ length before
  pub end_is : m.end ≡ length rs
  pub below : list_all (λ r. is_gt (key_cmp (directions m.lefts) m.key (key_of m.rights r))) before ≡ true
  pub equal : list_all (λ r. row_eq m.key (key_of m.rights r)) run ≡ true

-- the run holds all rows of the key among these right rows, and among those that may come behind them while all rise. Where
-- it is not closed, none may come
abbrev pub HoldsKey : MergeState → Bool → List Row → Type 0
HoldsKey m closed rs =
    (more : List Row) → (closed ≡ false → more ≡ []) → sorted m.rights (rs ++ more) ≡ true → of_key (order_columns m.rights) m.key (rs ++ more) ≡ slice_range rs m.start m.end

-- the state after these left rows, where the run starts and ends at these of the right rows behind those that were dropped
abbrev pub state_at : List OrderEntry → List OrderEntry → List Row → List Row → ℕ → ℕ → MergeState
state_at lefts rights ls passed start end =
    record { lefts = lefts; rights = rights; key = last_key lefts ls; start = length passed + start; end = length passed + end }

-- why a merge stops: rows that do not rise, or out of memory
abbrev pub MergeBlame : MergeFault → Bool → Type 0
MergeBlame Falls rises = rises ≡ false
MergeBlame NoMemory rises = Unit {0}

-- two lists of rows side by side
abbrev pub beside : List Row → List Row → List Row
beside ls rs = map (λ p. p.0 ++ p.1) (zip ls rs)

-- the rows at pairs of places
abbrev pub rows_at : RowsView → RowsView → List ℕ → List ℕ → List Row
rows_at left right ls rs = map (λ p. row left p.0 ++ row right p.1) (zip ls rs)

-- what a merge shows: the orders of its inputs; the left rows at hand, and how many of them were joined; the right rows at hand, and
-- where among them the run starts and ends; and which inputs have ended
pub record MergeView : Type 0 where
  pub lefts : List OrderEntry
  pub rights : List OrderEntry
  pub left : RowsView
  pub next : ℕ
  pub right : RowsView
  pub start : ℕ
  pub end : ℕ
  pub left_ended : Bool
  pub right_ended : Bool

-- the left rows up to the one whose key the run has
abbrev pub begun : MergeView → List Row → List Row
begun s earlier = earlier ++ take (s.next + 1) s.left.rows

-- the left rows that were joined
abbrev pub joined_rows : MergeView → List Row → List Row
joined_rows s earlier = earlier ++ take s.next s.left.rows

-- behind these left rows of earlier batches, and these right rows that were dropped, it has returned these rows: the join of
-- the left rows that were joined with all right rows, and with those that may come behind them while all rise
pub record IsMerged (s : MergeView) (earlier passed ys : List Row) : Type 0 where
  pub left_edge : s.left.rows ≡ [] → earlier ≡ []
  pub right_edge : s.right.rows ≡ [] → passed ≡ []
  pub rises : sorted s.rights (passed ++ s.right.rows) ≡ true
  pub merged : (s.left_ended ≡ true → s.next < length s.left.rows) → HasMerged (state_at s.lefts s.rights (begun s earlier) passed s.start s.end) (begun s earlier) (passed ++ take s.end s.right.rows)
  pub holds : (more : List Row) → (s.right_ended ≡ true → more ≡ []) → sorted s.rights ((passed ++ s.right.rows) ++ more) ≡ true
      → ys ≡ flat_map (matched (order_columns s.lefts) (order_columns s.rights) ((passed ++ s.right.rows) ++ more)) (joined_rows s earlier)

-- these left and right rows came, and it has returned these rows
pub record HasJoined (s : MergeView) (ls rs ys : List Row) : Type 0 where
  pub earlier : List Row
  pub passed : List Row
  pub left_is : earlier ++ s.left.rows ≡ ls
  pub right_is : passed ++ s.right.rows ≡ rs
  pub is : IsMerged s earlier passed ys

-- the second has the same inputs at hand as the first
pub record HasSameInputs (a b : MergeView) : Type 0 where
  pub lefts : b.lefts ≡ a.lefts
  pub rights : b.rights ≡ a.rights
  pub left : b.left ≡ a.left
  pub right : b.right ≡ a.right
  pub left_ended : b.left_ended ≡ a.left_ended
  pub right_ended : b.right_ended ≡ a.right_ended

-- the second has the same orders, types of rows and ends of inputs as the first
pub record HasSameShape (a b : MergeView) : Type 0 where
  pub lefts : b.lefts ≡ a.lefts
  pub rights : b.rights ≡ a.rights
  pub left : b.left.types ≡ a.left.types
  pub right : b.right.types ≡ a.right.types

-- the run holds all right rows that the next left row is joined with, behind these that were dropped
abbrev pub HoldsRun : MergeView → List Row → Type 0
HoldsRun s passed =
    (more : List Row) → (s.right_ended ≡ true → more ≡ []) → sorted s.rights ((passed ++ s.right.rows) ++ more) ≡ true
    → of_key (order_columns s.rights) (key_of s.lefts (row s.left s.next)) ((passed ++ s.right.rows) ++ more) ≡ slice_range s.right.rows s.start s.end

-- the next left row joined with each row of the run
abbrev pub run_rows : MergeView → List Row
run_rows s = map (λ r. row s.left s.next ++ r) (slice_range s.right.rows s.start s.end)

-- what it needs before it can go on
abbrev pub merge_need : MergeView → MergeNeed
merge_need s =
    cond (nat_lt s.next (length s.left.rows))
    (cond s.right_ended need.Nothing (cond (nat_lt s.end (length s.right.rows)) need.Nothing need.Right))
    (cond s.left_ended (cond s.right_ended need.End need.Right) need.Left)
