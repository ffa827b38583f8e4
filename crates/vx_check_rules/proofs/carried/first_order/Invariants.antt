use Rattle.std.proofs.Common.{◌≡◌, drop}
use Rattle.vx_check_rules.specs.Behaviour.{first_order}
use Rattle.vx_check_rules.specs.SortedView.{sortings_in}
use Rattle.vx_check_rules.proofs.carried.first_order.Given as goal

abbrev pub invariant-loop-sorting : goal.invariant-loop-sorting
invariant-loop-sorting l = first_order (sortings_in (drop l.sorting-index l.sortings)) ≡ first_order (sortings_in l.sortings)
