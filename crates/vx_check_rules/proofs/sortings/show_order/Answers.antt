use Rattle.std.proofs.Common.{◌∙◌, sym, ap}
use Rattle.std.specs.List.{list_any}
use Rattle.vx_check_rules.specs.Behaviour.{sorts}
use Rattle.vx_check_rules.specs.SortedView.{sorting_in}
use Rattle.vx_check_rules.proofs.WayFacts.{any-found, any-later}
use Rattle.vx_check_rules.proofs.sortings.show_order.Goals as goal

pub returns-then-is_sorted : goal.returns-then-is_sorted
returns-then-is_sorted c =
    sym (c.loop-sorting.invariant ∙ any-found (λ s. sorts s c.args.order.now) sorting_in c.args.sortings.now c.loop-sorting.sorting-index c.sorting-item.result _ c.loop-sorting-test.true (c.is_sorted.ensures ∙ ap (λ o. list_any (λ s. sorts s c.args.order.now) (sorting_in o)) c.sorting-item.is) c.if-is_sorted.true)

pub loop-sorting-preserved : goal.loop-sorting-preserved
loop-sorting-preserved c =
    c.loop-sorting.invariant ∙ any-later (λ s. sorts s c.args.order.now) sorting_in c.args.sortings.now c.loop-sorting.sorting-index c.sorting-item.result _ c.loop-sorting-test.true (c.is_sorted.ensures ∙ ap (λ o. list_any (λ s. sorts s c.args.order.now) (sorting_in o)) c.sorting-item.is) c.if-is_sorted.false
