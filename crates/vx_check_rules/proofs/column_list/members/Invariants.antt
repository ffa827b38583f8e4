use Rattle.vx_plan_facts.specs.ColumnSetView.{set_of_columns}
use Rattle.vx_check_rules.proofs.OrderSteps.{SoFar}
use Rattle.vx_check_rules.proofs.column_list.members.Given as goal

abbrev pub invariant-loop-column : goal.invariant-loop-column
invariant-loop-column l = SoFar (set_of_columns l.set) l.column l.list.items
