use Rattle.std.proofs.Common.{◌∙◌, List, ℕ, ap, sym, subst, arith, map, length}
use Rattle.std.proofs.lemmas.List.{take_all}
use Rattle.vx_rows.specs.View.{row, ArePositions}
use Rattle.vx_rows.proofs.PlaceFacts.{places-order, rows-order, order-there}
use Rattle.vx_rows.proofs.Grown.{seen, fit_seen}
use Rattle.vx_rows.proofs.table.Table.sorted_positions.Goals as goal

pub returns-clause-order : goal.returns-clause-order
returns-clause-order c =
    let t = c.args.self.now in
    let ps = c.in_ok-places.places.items in
    c.loop-place.invariant
    ∙ (ap (map (λ p. p.position)) (take_all c.loop-place.place-index c.deref-place-items.result.now (omega (arith, c.loop-place-test.false)) ∙ c.deref-place-items.ensures.value)
    ∙ (ap (map (λ p. p.position)) c.in_ok-places.ensures ∙ places-order t.types c.args.order.now t.rows (fit_seen (seen c.self.view_is c.self.invariant))))

pub returns-clause-sorted : goal.returns-clause-sorted
returns-clause-sorted c = ap (map (row c.args.self.now)) (returns-clause-order c) ∙ rows-order c.args.order.now c.args.self.now.rows

pub returns-clause-there : goal.returns-clause-there
returns-clause-there c =
    let t = c.args.self.now in
    subst (λ (l : List ℕ). ArePositions (length t.rows) l) (sym (returns-clause-order c)) (order-there c.args.order.now t.rows)
