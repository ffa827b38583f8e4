use Rattle.std.proofs.Common.{◌≡◌, false, ◌&&◌}
use Rattle.std.specs.List.{list_any}
use Rattle.vx_plan_nodes.specs.Phases.{first_columns}
use Rattle.vx_plan_nodes.specs.Describe.{source}
use Rattle.vx_plan_nodes.specs.DescribeView.{copying_of}
use Rattle.vx_plan_facts.specs.Determined.{column_in}
use Rattle.vx_check_rules.specs.DerivedView.{equality_of}
use Rattle.vx_check_rules.proofs.routed.stands_for.Given as goal

-- none so far
abbrev pub invariant-loop-between : goal.invariant-loop-between
invariant-loop-between l =
    list_any (λ d. equality_of l.output d l.column && column_in (λ y. equality_of l.input y l.other) (source (copying_of l.copying) d)) (first_columns l.between) ≡ false
