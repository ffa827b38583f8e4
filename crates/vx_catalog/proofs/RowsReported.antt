-- What is known of the rows so far.
use Rattle.std.proofs.Common.{◌≡◌, ℕ, List, [], Option, Some, None}
use Rattle.vx_rows_values.specs.Values.{Row}
use Rattle.vx_rows_values.specs.declared.value.ColType.{ColType}
use Rattle.vx_catalog.specs.Loading.{rows_onto}

-- the rows at the front and those of the records that are left are the rows of all records, where these are known
abbrev pub RowsSoFar : List ColType → List Row → Option (List (List (List ℕ))) → Option (List (List (List ℕ))) → Type 0
RowsSoFar types front None left = Unit {0}
RowsSoFar types front (Some all) None = ⊥
RowsSoFar types front (Some all) (Some left) = rows_onto types front left ≡ rows_onto types [] all
