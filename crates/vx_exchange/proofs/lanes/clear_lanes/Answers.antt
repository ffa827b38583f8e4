use Rattle.std.proofs.Common.{◌<◌, ◌≡◌, [], length, arith}
use Rattle.vx_exchange.proofs.LaneLists.{same-refl, same-along, same-set, same-count, below-set, all-from_lanes}
use Rattle.std.proofs.lemmas.Option.{slice_get_within}
use Rattle.vx_exchange.proofs.lanes.clear_lanes.Goals as goal

pub loop-consumer-init : goal.loop-consumer-init
loop-consumer-init c = (same-refl c.args.lanes.now.items, λ j o l. absurd (omega (arith, l)), λ j o l. absurd (omega (arith, l)))

pub loop-consumer-preserved : goal.loop-consumer-preserved
loop-consumer-preserved c =
    let old = c.args.lanes.now.items in
    let items = c.loop-consumer.lanes.items in
    let k = c.loop-consumer.consumer in
    let i = c.loop-consumer.invariant in
    let many = same-count old items i.0 in
    let test = c.loop-consumer-test.true in
    let end = c.len-consumer-end.ensures in
    let within : k < length items = omega (arith, many, test, end) in
    let e = c.clear.ensures in (
      same-along old items _ i.0 (same-set items k c.index_mut.result.now c.clear.new.self c.index_mut.ensures.value e.way e.closed),
      below-set (λ o. o.ready ≡ []) items k c.clear.new.self within e.ready i.1,
      below-set (λ o. o.current ≡ []) items k c.clear.new.self within e.current i.2,
    )

pub returns-clause-idle : goal.returns-clause-idle
returns-clause-idle c =
    let old = c.args.lanes.now.items in
    let items = c.loop-consumer.lanes.items in
    let i = c.loop-consumer.invariant in
    let many = same-count old items i.0 in
    let test = c.loop-consumer-test.false in
    let end = c.len-consumer-end.ensures in
    all-from_lanes (λ o. o.ready ≡ []) items (λ j o h. i.1 j o (let there = slice_get_within items j o h in omega (arith, many, test, end, there)) h)

pub returns-clause-none : goal.returns-clause-none
returns-clause-none c =
    let old = c.args.lanes.now.items in
    let items = c.loop-consumer.lanes.items in
    let i = c.loop-consumer.invariant in
    let many = same-count old items i.0 in
    let test = c.loop-consumer-test.false in
    let end = c.len-consumer-end.ensures in
    all-from_lanes (λ o. o.current ≡ []) items (λ j o h. i.2 j o (let there = slice_get_within items j o h in omega (arith, many, test, end, there)) h)
