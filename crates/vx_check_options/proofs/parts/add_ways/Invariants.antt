use Rattle.std.proofs.Common.{◌≡◌, map, flat_map, drop}
use Rattle.vx_plan_nodes.specs.Outline.{part_of}
use Rattle.vx_check_rules.specs.WayView.{ways_in}
use Rattle.vx_check_options.specs.Options.{parts_of_way, with_parts}
use Rattle.vx_check_options.proofs.parts.add_ways.Given as goal

abbrev pub invariant-loop-way : goal.invariant-loop-way
invariant-loop-way l = with_parts (map part_of l.fn.parts.items) (flat_map parts_of_way (ways_in l.ways)) ≡ with_parts (map part_of l.parts.items) (flat_map parts_of_way (ways_in (drop l.way-index l.ways)))
