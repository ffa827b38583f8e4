use Rattle.std.proofs.Common.{rules, ap, ◌∙◌}
use Rattle.std.proofs.lemmas.Fn.{always_returns_same}
use Rattle.vx_rows.specs.Sorting.{sort_by, first_falls, compare_places}
use Rattle.vx_rows.proofs.SortFacts.{falls, falls-order, sort-is}
use Rattle.vx_rows.proofs.PlaceFacts.{places_total}
use Rattle.vx_rows.proofs.table.Table.sorted_places.Goals as goal

pub returns : goal.returns
returns c =
    let order = c.args.order.now in
    let cmp = compare_places (first_falls order) order c.args.self.now.rows in
    let total = places_total (first_falls order) order c.args.self.now.rows in
    let computes = always_returns_same _ _ _ (λ a r q k. search rules) in
    sort-is cmp total c.in_ok-places.places.items c.sort_by.new.self.items
    (c.in_ok-sort_by.ensures.sorted (falls cmp) (falls-order cmp total) computes)
    (c.in_ok-sort_by.ensures.stable (falls cmp) (falls-order cmp total) computes)
    ∙ ap (sort_by cmp) c.in_ok-places.ensures
