use Rattle.std.proofs.Common.{◌≡◌, ◌++◌, map, take}
use Rattle.vx_check_rules.specs.Rules.{entry_at}
use Rattle.vx_check_options.proofs.order_choices.add_entry_copies.Given as goal

abbrev pub invariant-loop-column : goal.invariant-loop-column
invariant-loop-column l = l.found.items ≡ l.fn.found.items ++ map (λ c. entry_at c l.entry) (take l.column-index l.column-items)
