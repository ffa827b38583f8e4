use Rattle.std.proofs.Common.{◌≡◌, ◌==◌, get_or}
use Rattle.std.specs.List.{filter}
use Rattle.vx_plan_nodes.specs.Phases.{first_columns}
use Rattle.vx_plan_facts.proofs.facts.class_in.Given as goal

abbrev pub invariant-loop-other : goal.invariant-loop-other
invariant-loop-other l = l.class.items ≡ filter (λ d. get_or l.firsts l.column 0 == get_or l.firsts d 0) (first_columns l.other)
