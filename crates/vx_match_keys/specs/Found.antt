-- What keys of one number each show.
use Rattle.std.specs.Prelude.{List}
use Rattle.vx_rows_values.specs.Values.{Row}
use Rattle.vx_match_keys.specs.declared.int_keys.Found.{Found}
use Rattle.vx_match_keys.specs.declared.int_keys.Found.TheVariants as found

abbrev pub found_keys : Found → List Row
found_keys (found.Direct k) = k
found_keys (found.Hashed k) = k
