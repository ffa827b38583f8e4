use Rattle.std.proofs.Common.{◌≡◌, map, drop}
use Rattle.std.specs.List.{list_any}
use Rattle.vx_plan_nodes.specs.Outline.{part_of}
use Rattle.vx_check_options.specs.Options.{is_routed}
use Rattle.vx_check_options.proofs.parts.has_routed.Given as goal

abbrev pub invariant-loop-part : goal.invariant-loop-part
invariant-loop-part l = list_any is_routed (map part_of l.parts) ≡ list_any is_routed (map part_of (drop l.part-index l.parts))
