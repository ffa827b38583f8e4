-- What keys of any number of values show.
use Rattle.std.specs.Prelude.{List}
use Rattle.vx_rows_values.specs.Values.{Row}
use Rattle.vx_match_keys.specs.declared.composite_keys.Kept.{Kept}
use Rattle.vx_match_keys.specs.declared.composite_keys.Kept.TheVariants as kept

abbrev pub kept_keys : Kept → List Row
kept_keys (kept.Columns k) = k.rows
kept_keys (kept.Rows k) = k
