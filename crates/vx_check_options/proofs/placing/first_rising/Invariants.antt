use Rattle.std.proofs.Common.{◌≡◌, map, drop}
use Rattle.std.specs.Prelude.{find}
use Rattle.vx_plan_nodes.specs.Outline.{part_of}
use Rattle.vx_check_rules.specs.Rules.{rises_by}
use Rattle.vx_check_options.proofs.placing.first_rising.Given as goal

abbrev pub invariant-loop-part : goal.invariant-loop-part
invariant-loop-part l = find (λ x. rises_by x l.order) (map part_of l.parts) ≡ find (λ x. rises_by x l.order) (map part_of (drop l.part-index l.parts))
