use Rattle.std.proofs.Common.{◌≡◌, [], drop}
use Rattle.vx_plan_facts.specs.FactsView.{width_of}
use Rattle.vx_check_rules.specs.DerivedView.{equality_of}
use Rattle.vx_check_shown.specs.ShownPart.{apart}
use Rattle.vx_check_shown.proofs.parts.apart.Given as goal

abbrev pub invariant-loop-column : goal.invariant-loop-column
invariant-loop-column l =
    apart (width_of l.facts) (equality_of l.facts) l.taken.items (drop l.column-index l.columns) ≡ apart (width_of l.facts) (equality_of l.facts) [] l.columns
