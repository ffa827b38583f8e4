use Rattle.std.proofs.Common.{◌<◌, ◌≡◌, ◌∙◌, [], length, sym, false, arith}
use Rattle.std.proofs.lemmas.Option.{slice_get_within}
use Rattle.vx_exchange.proofs.LaneLists.{finish-none, finish-more, same-count, same-along, same-set, all-lanes, all-from_lanes, read-at}
use Rattle.vx_exchange.proofs.lanes.finish_lanes.Goals as goal

pub loop-consumer-init : goal.loop-consumer-init
loop-consumer-init c = finish-none c.args.lanes.now.items

pub finish-requires : goal.finish-requires
finish-requires c =
    let old = c.args.lanes.now.items in
    let items = c.loop-consumer.lanes.items in
    let k = c.loop-consumer.consumer in
    let o = c.index_mut.result.now in
    let many = same-count old items c.loop-consumer.invariant.same in
    let test = c.loop-consumer-test.true in
    let end = c.len-consumer-end.ensures in
    let within : k < length items = omega (arith, many, test, end) in
    all-lanes (λ z. z.closed ≡ false) old c.requires k o (sym (c.loop-consumer.invariant.left k (omega arith)) ∙ read-at items k o within c.index_mut.ensures.value)

pub loop-consumer-preserved : goal.loop-consumer-preserved
loop-consumer-preserved c =
    let old = c.args.lanes.now.items in
    let items = c.loop-consumer.lanes.items in
    let k = c.loop-consumer.consumer in
    let many = same-count old items c.loop-consumer.invariant.same in
    let test = c.loop-consumer-test.true in
    let end = c.len-consumer-end.ensures in
    let within : k < length items = omega (arith, many, test, end) in
    let e = c.finish.ensures in
    finish-more k old items c.index_mut.result.now c.finish.new.self within c.index_mut.ensures.value e.way e.closed c.in_ok-finish.ensures.ok c.in_ok-finish.ensures.none c.loop-consumer.invariant

pub returns-in_err-finish-clause-same : goal.returns-in_err-finish-clause-same
returns-in_err-finish-clause-same c =
    let old = c.args.lanes.now.items in
    let items = c.loop-consumer.lanes.items in
    let e = c.finish.ensures in
    same-along old items _ c.loop-consumer.invariant.same (same-set items c.loop-consumer.consumer c.index_mut.result.now c.finish.new.self c.index_mut.ensures.value e.way e.closed)

pub returns-clause-ok : goal.returns-clause-ok
returns-clause-ok c =
    let old = c.args.lanes.now.items in
    let test = c.loop-consumer-test.false in
    let end = c.len-consumer-end.ensures in
    λ j o o' h h'. c.loop-consumer.invariant.done j o o' (let there = slice_get_within old j o h in omega (arith, test, end, there)) h h'

pub returns-clause-none : goal.returns-clause-none
returns-clause-none c =
    let old = c.args.lanes.now.items in
    let items = c.loop-consumer.lanes.items in
    let i = c.loop-consumer.invariant in
    let many = same-count old items i.same in
    let test = c.loop-consumer-test.false in
    let end = c.len-consumer-end.ensures in
    all-from_lanes (λ o. o.current ≡ []) items (λ j o h. i.none j o (let there = slice_get_within items j o h in omega (arith, many, test, end, there)) h)
