-- What a hasher is fed of rows.
use Rattle.std.specs.Prelude.{ℕ, List, flat_map}
use Rattle.std.specs.Hash as fed
use Rattle.vx_rows_values.specs.Values.{Val, num, text, Row}

-- of a value: what std feeds of a number or a text
abbrev pub val_feed : Val → List (List ℕ)
val_feed (num z) = fed.i64 z
val_feed (text s) = fed.str s

-- of a row: its values in order
abbrev pub row_feed : Row → List (List ℕ)
row_feed row = flat_map val_feed row
