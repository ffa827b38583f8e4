use Rattle.std.proofs.Common.{◌≡◌, map, get_or}
use Rattle.vx_plan_nodes.specs.Phases.{first_columns}
use Rattle.vx_plan_facts.proofs.carrying.both_labels.Given as goal

abbrev pub invariant-loop-column : goal.invariant-loop-column
invariant-loop-column l = l.labels.items ≡ map (λ c. (get_or l.firsts c 0, get_or l.others c 0)) (first_columns l.column)
