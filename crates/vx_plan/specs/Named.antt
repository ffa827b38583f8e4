-- What the nodes of a plan may name, as the program holds it.
use Rattle.std.specs.Prelude.{map, string_bytes}
use Rattle.vx_plan.specs.declared.lookup.Declared.{Declared}
use Rattle.vx_rows_values.specs.Ranges.{range_form}
use Rattle.vx_plan_nodes.specs.Names.{Names}

abbrev pub names_of : Declared → Names
names_of d = record { catalog = d.catalog.now; ranges = map range_form d.ranges.now; sizes = map string_bytes d.sizes.now }
