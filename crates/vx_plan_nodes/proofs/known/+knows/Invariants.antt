use Rattle.std.proofs.Common.{◌≡◌, true, map, take}
use Rattle.std.specs.List.{list_all}
use Rattle.vx_plan_nodes.specs.Known.{knows}
use Rattle.vx_plan_nodes.specs.Outline.{expression_of}
use Rattle.vx_plan_nodes.specs.Under.{expression_under}
use Rattle.vx_plan_nodes.specs.Types.{expression_type}
use Rattle.vx_plan_nodes.proofs.known.+knows.Given as goal

abbrev pub invariant-loop-operand : goal.invariant-loop-operand
invariant-loop-operand g l = record {
  typed : l.operand_types.items ≡ map (λ e. expression_type l.types (expression_of e)) (take l.operand-index l.operand-items);
  known : list_all (λ e. knows l.types (expression_under (g.F.PlanFunctions.functions l.functions) (expression_of e))) (take l.operand-index l.operand-items) ≡ true;
}
