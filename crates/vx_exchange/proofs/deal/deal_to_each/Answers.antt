use Rattle.std.proofs.Common.{◌<◌, ◌≡◌, ◌∙◌, List, length, ap, subst, false, arith}
use Rattle.vx_rows_values.specs.Values.{Row}
use Rattle.vx_rows.specs.View.{RowsView}
use Rattle.vx_plan_nodes.specs.Streams.{Streams}
use Rattle.vx_exchange.specs.LaneView.{Cuts}
use Rattle.vx_exchange.proofs.LaneLists.{cuts-none, cuts-more, cuts-all, next-was, same-count, same-along, same-set, all-lanes}
use Rattle.vx_exchange.proofs.deal.deal_to_each.Goals as goal

pub loop-consumer-init : goal.loop-consumer-init
loop-consumer-init c =
    let more : Streams = λ j. c.args.rows.now.rows in
    cuts-none more c.args.lanes.now.items

pub add-requires-clause-types : goal.add-requires-clause-types
add-requires-clause-types c =
    let more : Streams = λ j. c.args.rows.now.rows in
    let old = c.args.lanes.now.items in
    let items = c.loop-consumer.lanes.items in
    let k = c.loop-consumer.consumer in
    let o = c.index_mut.result.now in
    let many = same-count old items c.loop-consumer.invariant.same in
    let test = c.loop-consumer-test.true in
    let end = c.len-consumer-end.ensures in
    let within : k < length items = omega (arith, many, test, end) in
    ap (λ (r : RowsView). r.types) c.in_ok-shared.ensures ∙ all-lanes (λ z. c.args.rows.now.types ≡ z.way.types) old c.requires.types k o (next-was k more old items o within c.index_mut.ensures.value c.loop-consumer.invariant)

pub add-requires-clause-open : goal.add-requires-clause-open
add-requires-clause-open c =
    let more : Streams = λ j. c.args.rows.now.rows in
    let old = c.args.lanes.now.items in
    let items = c.loop-consumer.lanes.items in
    let k = c.loop-consumer.consumer in
    let o = c.index_mut.result.now in
    let many = same-count old items c.loop-consumer.invariant.same in
    let test = c.loop-consumer-test.true in
    let end = c.len-consumer-end.ensures in
    let within : k < length items = omega (arith, many, test, end) in
    all-lanes (λ z. z.closed ≡ false) old c.requires.open k o (next-was k more old items o within c.index_mut.ensures.value c.loop-consumer.invariant)

pub loop-consumer-preserved : goal.loop-consumer-preserved
loop-consumer-preserved c =
    let more : Streams = λ j. c.args.rows.now.rows in
    let old = c.args.lanes.now.items in
    let items = c.loop-consumer.lanes.items in
    let k = c.loop-consumer.consumer in
    let o = c.index_mut.result.now in
    let o' = c.add.new.self in
    let many = same-count old items c.loop-consumer.invariant.same in
    let test = c.loop-consumer-test.true in
    let end = c.len-consumer-end.ensures in
    let within : k < length items = omega (arith, many, test, end) in
    let e = c.add.ensures in
    let P : List Row → Type 0 = λ rows. Cuts o.way o.current o.ready rows o'.current o'.ready in
    cuts-more k more old items o o' within c.index_mut.ensures.value e.way e.closed (subst P (ap (λ (r : RowsView). r.rows) c.in_ok-shared.ensures) c.in_ok-add.ensures.ok) c.loop-consumer.invariant

pub returns-in_err-add-clause-same : goal.returns-in_err-add-clause-same
returns-in_err-add-clause-same c =
    let old = c.args.lanes.now.items in
    let items = c.loop-consumer.lanes.items in
    let e = c.add.ensures in
    same-along old items _ c.loop-consumer.invariant.same (same-set items c.loop-consumer.consumer c.index_mut.result.now c.add.new.self c.index_mut.ensures.value e.way e.closed)

pub returns-clause-ok : goal.returns-clause-ok
returns-clause-ok c =
    let more : Streams = λ j. c.args.rows.now.rows in
    let old = c.args.lanes.now.items in
    let test = c.loop-consumer-test.false in
    let end = c.len-consumer-end.ensures in
    cuts-all c.loop-consumer.consumer more old c.loop-consumer.lanes.items (omega (arith, test, end)) c.loop-consumer.invariant
