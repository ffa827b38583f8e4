use Rattle.std.proofs.Common.{◌≡◌, ◌&&◌, not}
use Rattle.vx_plan_facts.specs.FactsView.{width_of}
use Rattle.vx_check_rules.specs.DerivedView.{equality_of}
use Rattle.vx_check_rules.specs.Rules.{contains}
use Rattle.vx_check_shown.proofs.FirstColumns.{first_from}
use Rattle.vx_check_shown.proofs.parts.free_equal.Given as goal

abbrev pub invariant-loop-other : goal.invariant-loop-other
invariant-loop-other l =
    first_from 0 (width_of l.facts) (λ d. equality_of l.facts l.column d && not (contains l.taken d))
    ≡ first_from l.other (width_of l.facts) (λ d. equality_of l.facts l.column d && not (contains l.taken d))
