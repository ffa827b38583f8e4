-- What an operator does with columns and rows, whatever its inputs claim.
use Rattle.std.specs.Prelude.{ℕ, ◌+◌, ◌-◌, ◌==◌, nat_lt, nat_le, cond, Bool, false, List, length, map, position, Option, Some, None, slice_get, option_and_then}
use Rattle.vx_rows_values.specs.declared.order.OrderEntry.{OrderEntry}
use Rattle.vx_plan_nodes.specs.Plan.{Entry, copy_of, made_by, Unary, select, project, distinct, sort, group, limit, plain, partial, final, Binary, union, join, semi_join}
use Rattle.vx_rows_values.specs.Limits.{max_columns}

-- ---- copies of columns

-- how columns of an output are copies of those of an input: each of its own; those that are kept; of each of a list the column that it is, or none if it is
-- computed; those of a left or of a right input, the left one so wide; or none
pub data Copying : Type 0 where
  whole_rows : Copying
  columns_kept : List ℕ → Copying
  entries_kept : List (Option ℕ) → Copying
  left_of : ℕ → Copying
  right_of : ℕ → Copying
  no_columns : Copying

-- the column that an entry of a projection keeps
abbrev pub kept_column : Entry → Option ℕ
kept_column (copy_of c) = Some c
kept_column (made_by e) = None

-- it is this column
abbrev pub is_column : ℕ → Option ℕ → Bool
is_column c (Some k) = c == k
is_column c None = false

-- the input column that an output column is a copy of
abbrev pub source : Copying → ℕ → Option ℕ
source whole_rows c = Some c
source (columns_kept cols) c = slice_get cols c
source (entries_kept ks) c = option_and_then (λ k. k) (slice_get ks c)
source (left_of w) c = cond (nat_lt c w) (Some c) None
source (right_of w) c = cond (nat_le w c) (Some (c - w)) None
source no_columns c = None

-- where an input column first stands in the output. An output has no more than 64 columns
abbrev pub place : Copying → ℕ → Option ℕ
place whole_rows c = Some c
place (columns_kept cols) c = position (λ k. c == k) cols
place (entries_kept ks) c = position (is_column c) ks
place (left_of w) c = cond (nat_lt c w) (Some c) None
place (right_of w) c = cond (nat_lt c max_columns) (Some (w + c)) None
place no_columns c = None

-- ---- operators over one input

-- what becomes of the order of the rows: it goes on, or they are put in this order of input columns
pub data OrderAfter : Type 0 where
  order_kept : OrderAfter
  sorted_on : List OrderEntry → OrderAfter

-- what becomes of the keys: they go on, or the first columns of the output are one, or there is none
pub data KeysAfter : Type 0 where
  keys_kept : KeysAfter
  key_of_first : ℕ → KeysAfter
  no_key : KeysAfter

-- an operator over one input: how it copies columns; the columns on which rows that agree have to be on one worker, if it does not take the rows one by one;
-- and what becomes of the order and of the keys
pub record Described : Type 0 where
  pub copying : Copying
  pub meets : Option (List ℕ)
  pub order : OrderAfter
  pub keys : KeysAfter

abbrev pub described : Unary → Described
described (select fs) = record { copying = whole_rows; meets = None; order = order_kept; keys = keys_kept }
described (project es) = record { copying = entries_kept (map kept_column es); meets = None; order = order_kept; keys = keys_kept }
described (distinct cols) = record { copying = columns_kept cols; meets = Some cols; order = order_kept; keys = key_of_first (length cols) }
described (sort of_parts order) = record { copying = whole_rows; meets = None; order = sorted_on order; keys = cond of_parts no_key keys_kept }
described (group plain by aggregates) = record { copying = columns_kept by; meets = Some by; order = order_kept; keys = key_of_first (length by) }
described (group partial by aggregates) = record { copying = columns_kept by; meets = None; order = order_kept; keys = no_key }
described (group final by aggregates) = record { copying = columns_kept by; meets = Some by; order = order_kept; keys = key_of_first (length by) }
described (limit n) = record { copying = whole_rows; meets = None; order = order_kept; keys = cond (nat_le n 1) (key_of_first 0) keys_kept }

-- ---- operators over two inputs

-- how the rows of two inputs come together: side by side; or rows that agree on pairs of a left and a right column have to meet, and each two that do make a row,
-- or they say which left rows are kept
pub data Meeting : Type 0 where
  side_by_side : Meeting
  paired_on : List (ℕ × ℕ) → Meeting
  matched_on : List (ℕ × ℕ) → Meeting

-- an operator over two inputs: how it copies the columns of the left and of the right one, and how their rows come together
pub record DescribedBoth : Type 0 where
  pub left : Copying
  pub right : Copying
  pub meeting : Meeting

-- over a left input of this width
abbrev pub described_both : ℕ → Binary → DescribedBoth
described_both w union = record { left = whole_rows; right = whole_rows; meeting = side_by_side }
described_both w (join m on) = record { left = left_of w; right = right_of w; meeting = paired_on on }
described_both w (semi_join matched on conditions) = record { left = whole_rows; right = no_columns; meeting = matched_on on }
