use Rattle.std.proofs.Common.{◌≡◌}
use Rattle.vx_plan_nodes.specs.DescribeView.{copying_of}
use Rattle.vx_plan_facts.specs.Labels.{copy_labels}
use Rattle.vx_plan_facts.proofs.carrying.copy_labels.Given as goal

abbrev pub invariant-loop-column : goal.invariant-loop-column
invariant-loop-column l = l.labels.items ≡ copy_labels l.firsts (copying_of l.copying) l.column
