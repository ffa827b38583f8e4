-- Declared ranges: a name, and the bounds at which a route goes up by one.
use Rattle.std.specs.Prelude.{List, map, string_bytes}
use Rattle.vx_rows_values.specs.Values.{Name, Val}
use Rattle.vx_rows_values.specs.ValueView.{val_of}
use Rattle.vx_rows_values.specs.declared.range.NamedRange.{NamedRange}

pub record RangeForm : Type 0 where
  pub name : Name
  pub bounds : List Val

-- the range that one of the program stands for
abbrev pub range_form : NamedRange → RangeForm
range_form r = record { name = string_bytes r.name; bounds = map val_of r.bounds.items }
