use Rattle.std.proofs.Common.{◌≡◌}
use Rattle.vx_plan_nodes.specs.Phases.{first_columns}
use Rattle.vx_plan_facts.proofs.classes.each_itself.Given as goal

abbrev pub invariant-loop-column : goal.invariant-loop-column
invariant-loop-column l = l.firsts.items ≡ first_columns l.column
