use Rattle.std.proofs.Common.{◌≡◌, drop}
use Rattle.std.specs.List.{list_any}
use Rattle.vx_plan_nodes.specs.Outline.{part_of}
use Rattle.vx_check_rules.specs.Behaviour.{gives}
use Rattle.vx_check_rules.specs.WayView.{ways_in}
use Rattle.vx_check_rules.proofs.ways.show_part.Given as goal

abbrev pub invariant-loop-way : goal.invariant-loop-way
invariant-loop-way l = list_any (λ w. gives w (part_of l.wanted)) (ways_in l.ways) ≡ list_any (λ w. gives w (part_of l.wanted)) (ways_in (drop l.way-index l.ways))
