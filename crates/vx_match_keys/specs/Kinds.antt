-- What keys of each kind show.
use Rattle.std.specs.Prelude.{List}
use Rattle.vx_rows_values.specs.Values.{Row}
use Rattle.vx_match_keys.specs.declared.keys.Kind.{Kind}
use Rattle.vx_match_keys.specs.declared.keys.Kind.TheVariants as kind

abbrev pub kind_keys : Kind → List Row
kind_keys (kind.Ints k) = k
kind_keys (kind.Texts k) = k
kind_keys (kind.Rows k) = k
