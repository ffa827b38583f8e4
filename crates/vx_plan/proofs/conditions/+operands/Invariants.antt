use Rattle.std.proofs.Common.{◌≡◌, [], map, drop}
use Rattle.vx_plan.specs.Lookup.{walk_onto}
use Rattle.vx_plan_json.specs.Document.{operand_form}
use Rattle.vx_plan_nodes.specs.Outline.{expression_of}
use Rattle.vx_plan.specs.Resolve.{find_operand}
use Rattle.vx_plan.proofs.conditions.+operands.Given as goal

abbrev pub invariant-find_operands-loop-operand : goal.invariant-find_operands-loop-operand
invariant-find_operands-loop-operand l =
    walk_onto (find_operand l.node l.names) (map expression_of l.found.items) (map operand_form (drop l.operand-index l.operands)) ≡ walk_onto (find_operand l.node l.names) [] (map operand_form l.operands)
