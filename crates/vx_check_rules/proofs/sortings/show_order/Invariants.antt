use Rattle.std.proofs.Common.{◌≡◌, drop}
use Rattle.std.specs.List.{list_any}
use Rattle.vx_check_rules.specs.Behaviour.{sorts}
use Rattle.vx_check_rules.specs.SortedView.{sortings_in}
use Rattle.vx_check_rules.proofs.sortings.show_order.Given as goal

abbrev pub invariant-loop-sorting : goal.invariant-loop-sorting
invariant-loop-sorting l = list_any (λ s. sorts s l.order) (sortings_in l.sortings) ≡ list_any (λ s. sorts s l.order) (sortings_in (drop l.sorting-index l.sortings))
