use Rattle.std.proofs.Common.{arith, sym, subst, ap, ◌∙◌, length}
use Rattle.vx_rows_values.specs.Order.{order_columns, sorted}
use Rattle.vx_rows.specs.View.{AreColumns}
use Rattle.vx_exchange_receivers.proofs.HeadsLeft.{ends-set}
use Rattle.vx_exchange_receivers.proofs.MergeCalls.{call-types, call-columns, out, call-put-row, call-put-order, call-put-alike, call-put-fits, call-put-rises, call-put-falls}
use Rattle.vx_exchange_receivers.proofs.merge.StreamMerge.put.Goals as goal

pub followed_by-requires : goal.followed_by-requires
followed_by-requires c = call-types _ _ c.self.view_is c.self.invariant c.args.from c.requires.missing c.index.result.now c.index.result.now c.index.ensures c.args.rows.types c.requires.types

pub rises-requires : goal.rises-requires
rises-requires c =
    let x = c.index.result.now in
    let g = c.in_ok-next.next in
    let e = c.in_ok-next.ensures in
    subst (λ order. AreColumns (length g.rows.types) (order_columns order)) (sym c.deref.ensures.value) (call-columns _ _ c.self.view_is c.self.invariant c.args.from c.requires.missing x g c.index.ensures e.types)

pub add_to_order-requires-clause-alike : goal.add_to_order-requires-clause-alike
add_to_order-requires-clause-alike c =
    let x = c.index.result.now in
    let g = c.in_ok-next.next in
    let e = c.in_ok-next.ensures in
    rw (c.deref-3.ensures.value, c.deref-2.ensures.value) (call-put-alike _ _ c.self.view_is c.self.invariant c.args.from c.requires.missing x g c.index.ensures c.args.rows.rows e.rows e.at e.types e.ended)

pub add_to_order-requires-clause-order : goal.add_to_order-requires-clause-order
add_to_order-requires-clause-order c =
    let x = c.index.result.now in
    let g = c.in_ok-next.next in
    let e = c.in_ok-next.ensures in
    rw (c.deref-3.ensures.value, c.deref-2.ensures.value, c.reserve.ensures.items) (call-put-order _ _ c.self.view_is c.self.invariant c.args.from c.requires.missing x g c.index.ensures c.args.rows.rows e.rows e.at e.types e.ended)

pub add_to_order-requires-clause-row : goal.add_to_order-requires-clause-row
add_to_order-requires-clause-row c =
    let x = c.index.result.now in
    let g = c.in_ok-next.next in
    let e = c.in_ok-next.ensures in
    rw c.deref-2.ensures.value (call-put-row _ _ c.self.view_is c.self.invariant c.args.from c.requires.missing x g c.index.ensures c.args.rows.rows e.rows e.at e.types e.ended c.requires.some)

pub add_to_order-requires-clause-other : goal.add_to_order-requires-clause-other
add_to_order-requires-clause-other c = rw c.reserve.ensures.items (out _ _ c.self.view_is c.self.invariant c.args.from c.requires.missing)

pub add_to_order-requires-clause-room : goal.add_to_order-requires-clause-room
add_to_order-requires-clause-room c = let r = c.in_ok-reserve.ensures.ok in omega (arith, r)

pub invariant_of-self : goal.invariant_of-self
invariant_of-self c = rw c.reserve.ensures.items c.self.invariant

pub invariant_of-self-2 : goal.invariant_of-self-2
invariant_of-self-2 c =
    let x = c.index.result.now in
    let g = c.in_ok-next.next in
    let e = c.in_ok-next.ensures in
    let a = c.add_to_order.ensures in
    call-put-fits _ _ c.self.view_is c.self.invariant c.args.from c.requires.missing x g c.index.ensures c.args.rows.rows e.rows e.at e.types e.ended (ap (λ order. sorted order g.rows.rows) (sym c.deref.ensures.value) ∙ (sym c.rises.ensures ∙ c.if-not-rises.false)) c.add_to_order.new.order.items (rw (c.deref-3.ensures.value, c.deref-2.ensures.value) at a.order) (rw c.reserve.ensures.items at a.kept) a.added
    c.first_lacking-self-inside.result (rw c.deref-4.ensures.value at c.first_lacking-self-inside.ensures)

pub returns-then-not-rises-clause-falls : goal.returns-then-not-rises-clause-falls
returns-then-not-rises-clause-falls c t closed came given h =
    let x = c.index.result.now in
    let g = c.in_ok-next.next in
    let e = c.in_ok-next.ensures in
    call-put-falls _ _ c.self.view_is c.self.invariant c.args.from c.requires.missing x g c.index.ensures c.args.rows.rows e.rows e.at e.types e.ended (ap (λ order. sorted order g.rows.rows) (sym c.deref.ensures.value) ∙ (sym c.rises.ensures ∙ c.if-not-rises.true)) closed came given h

pub returns-clause-rises : goal.returns-clause-rises
returns-clause-rises c t closed came given h =
    let x = c.index.result.now in
    let g = c.in_ok-next.next in
    let e = c.in_ok-next.ensures in
    call-put-rises _ _ c.self.view_is c.self.invariant c.args.from c.requires.missing x g c.index.ensures c.args.rows.rows e.rows e.at e.types e.ended (ap (λ order. sorted order g.rows.rows) (sym c.deref.ensures.value) ∙ (sym c.rises.ensures ∙ c.if-not-rises.false)) closed came given h

pub returns-clause-ends : goal.returns-clause-ends
returns-clause-ends c = rw (← c.self.view_is) (ends-set c.self.inside.heads.items c.args.from c.index.result.now c.in_ok-next.next c.index.ensures c.in_ok-next.ensures.ended)
