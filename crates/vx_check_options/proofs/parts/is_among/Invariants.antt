use Rattle.std.proofs.Common.{◌≡◌, map, drop}
use Rattle.std.specs.List.{list_any}
use Rattle.vx_plan_nodes.specs.Outline.{part_of}
use Rattle.vx_check_options.specs.Options.{same_part}
use Rattle.vx_check_options.proofs.parts.is_among.Given as goal

abbrev pub invariant-loop-other : goal.invariant-loop-other
invariant-loop-other l = list_any (same_part (part_of l.part)) (map part_of l.parts) ≡ list_any (same_part (part_of l.part)) (map part_of (drop l.other-index l.parts))
