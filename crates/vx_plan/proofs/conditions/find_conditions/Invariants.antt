use Rattle.std.proofs.Common.{◌≡◌, [], map, drop}
use Rattle.vx_plan.specs.Lookup.{walk_onto}
use Rattle.vx_plan_json.specs.Document.{condition_form}
use Rattle.vx_plan_nodes.specs.Outline.{condition_of}
use Rattle.vx_plan.specs.Resolve.{find_condition}
use Rattle.vx_plan.proofs.conditions.find_conditions.Given as goal

abbrev pub invariant-loop-condition : goal.invariant-loop-condition
invariant-loop-condition l =
    walk_onto (find_condition l.node l.names) (map condition_of l.found.items) (map condition_form (drop l.condition-index l.conditions)) ≡ walk_onto (find_condition l.node l.names) [] (map condition_form l.conditions)
