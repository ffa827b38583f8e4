use Rattle.std.proofs.Common.{◌≡◌, [], slice_index, drop}
use Rattle.vx_plan_facts.specs.FactsView.{facts_of}
use Rattle.vx_check_failures.specs.Shown.{with_named}
use Rattle.vx_check_failures.proofs.named.named.Given as goal

abbrev pub invariant-loop-column : goal.invariant-loop-column
invariant-loop-column l =
    with_named (slice_index (facts_of l.facts).firsts) l.named.items (drop l.column-index l.columns) ≡ with_named (slice_index (facts_of l.facts).firsts) [] l.columns
