-- Orders that are there, as the program holds them.
use Rattle.std.specs.Prelude.{List, flat_map, Option, option_map, option_to_list}
use Rattle.vx_plan_nodes.specs.DescribeView.{copying_of}
use Rattle.vx_check_rules.specs.Behaviour as upwards
use Rattle.vx_check_rules.specs.declared.sortings.Sorted as rust_sorted

abbrev pub sorted_of : rust_sorted.Sorted → upwards.Sorted
sorted_of s = record { copying = copying_of s.copying; order = s.order.now }

-- an order that may be there, and those of these that are
abbrev pub sorting_in : Option rust_sorted.Sorted → List upwards.Sorted
sorting_in o = option_to_list (option_map sorted_of o)

abbrev pub sortings_in : List (Option rust_sorted.Sorted) → List upwards.Sorted
sortings_in ss = flat_map sorting_in ss
