-- Behaviours, as the program holds them.
use Rattle.std.specs.Prelude.{Bool, List, ◌∷◌, flat_map, Option, option_map, option_to_list}
use Rattle.vx_plan_nodes.specs.Plan.{Part, one, any, all, routed}
use Rattle.vx_plan_nodes.specs.Outline.{route_of}
use Rattle.vx_plan_nodes.specs.DescribeView.{copying_of}
use Rattle.vx_check_rules.specs.Behaviour as upwards
use Rattle.vx_check_rules.specs.declared.parts.PartSeen as rust_part
use Rattle.vx_check_rules.specs.declared.parts.PartSeen.TheVariants as seen
use Rattle.vx_check_rules.specs.declared.ways.Had as rust_had
use Rattle.vx_check_rules.specs.declared.ways.Way as rust_way

abbrev pub part_seen : rust_part.PartSeen → Part
part_seen seen.One = one
part_seen seen.Any = any
part_seen seen.All = all
part_seen (seen.Routed r cols) = routed (route_of r.now) cols.now

abbrev pub had_of : rust_had.Had → Bool × Part
had_of h = (h.is_alone, part_seen h.part)

abbrev pub way_of : rust_way.Way → upwards.Way
way_of w = record { copying = copying_of w.copying; from = had_of w.first ∷ option_to_list (option_map had_of w.second) }

-- a way that may be there, and those of these that are
abbrev pub way_in : Option rust_way.Way → List upwards.Way
way_in o = option_to_list (option_map way_of o)

abbrev pub ways_in : List (Option rust_way.Way) → List upwards.Way
ways_in ws = flat_map way_in ws
