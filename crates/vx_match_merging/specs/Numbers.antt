-- Keys that are one number each, and where a merge by them stands.
use Rattle.std.specs.Prelude.{◌≡◌, ◌<◌, ◌≤◌, ◌+◌, ℕ, ℤ, pos, Bool, true, List, [], ◌∷◌, length, slice_index_or}
use Rattle.vx_rows_values.specs.declared.order.OrderEntry.{OrderEntry}
use Rattle.vx_rows_values.specs.Values.{Row}
use Rattle.vx_rows_values.specs.Order.{sorted}
use Rattle.vx_match_keys.specs.Columns.{number_key}
use Rattle.vx_match_merging.specs.Keys.{directions, key_of}
use Rattle.vx_match_merging.specs.Merged.{MergeView}
use Rattle.vx_match_merging.specs.declared.numbers.MergePlace.{MergePlace}

-- these numbers are the keys of rows, from one of them on
abbrev pub AreKeysFrom : List OrderEntry → List Row → ℕ → List ℤ → ℕ → Type 0
AreKeysFrom by rows from numbers count =
    (k : ℕ) → k < count → key_of by (slice_index_or rows (from + k) []) ≡ number_key (slice_index_or numbers k (pos 0))

-- a merge of these rows that stands at this place
abbrev pub at_place : MergeView → MergePlace → MergeView
at_place s p = record s { next = p.next; start = p.start; end = p.end }

-- these numbers are the keys of the left and the right rows at hand from a place on, and the left rows rise
pub record HasNumbers (s : MergeView) (from : MergePlace) (falling : Bool) (lefts rights : List ℤ) : Type 0 where
  pub one : directions s.lefts ≡ falling ∷ []
  pub rises : sorted s.lefts s.left.rows ≡ true
  pub left_within : from.next + length lefts ≤ length s.left.rows
  pub right_within : from.end + length rights ≤ length s.right.rows
  pub left : AreKeysFrom s.lefts s.left.rows from.next lefts (length lefts)
  pub right : AreKeysFrom s.rights s.right.rows from.end rights (length rights)
