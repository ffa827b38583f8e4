use Rattle.std.proofs.Common.{◌≡◌, map, slice_index, take}
use Rattle.vx_plan_facts.specs.FactsView.{facts_of}
use Rattle.vx_check_rules.specs.Rules.{entry_at}
use Rattle.vx_check_shown.proofs.orders.firsts_of.Given as goal

abbrev pub invariant-loop-entry : goal.invariant-loop-entry
invariant-loop-entry l = l.firsts.items ≡ map (λ e. entry_at (slice_index (facts_of l.facts).firsts e.column) e) (take l.entry-index l.order)
