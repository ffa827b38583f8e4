use Rattle.std.proofs.Common.{◌≡◌, map, take}
use Rattle.serde_json.specs.View.{view}
use Rattle.vx_plan_json.specs.Document.{operand_form}
use Rattle.vx_plan_json.specs.Written.{operand_json}
use Rattle.vx_plan_json.proofs.json.+operands.Given as goal

abbrev pub invariant-operands_json-loop-operand : goal.invariant-operands_json-loop-operand
invariant-operands_json-loop-operand l = map view l.list.items ≡ map (λ o. operand_json (operand_form o)) (take l.operand-index l.operands)
