use Rattle.std.proofs.Common.{◌≡◌, ◌+◌, ◌-◌, ◌*◌, [], map, drop}
use Rattle.serde_json.specs.View.{view}
use Rattle.vx_catalog_json.specs.Look.{each_onto}
use Rattle.vx_plan_json.specs.Document.{operand_form}
use Rattle.vx_plan_json.specs.Form.{operand_in}
use Rattle.vx_plan_json.proofs.operands.+operands.Given as goal

abbrev pub decreases-read_operand : goal.decreases-read_operand
decreases-read_operand l = 4 * l.levels

abbrev pub decreases-read_operands : goal.decreases-read_operands
decreases-read_operands l = 4 * l.levels + 1

abbrev pub decreases-read_call : goal.decreases-read_call
decreases-read_call l = 4 * l.levels + 2

abbrev pub decreases-read_object : goal.decreases-read_object
decreases-read_object l = 4 * l.levels + 3

abbrev pub invariant-read_operands-loop-item : goal.invariant-read_operands-loop-item
invariant-read_operands-loop-item l =
    each_onto (operand_in (l.levels - 1)) (map operand_form l.found.items) (map view (drop l.item-index l.item-items)) ≡ each_onto (operand_in (l.levels - 1)) [] (map view l.item-items)
