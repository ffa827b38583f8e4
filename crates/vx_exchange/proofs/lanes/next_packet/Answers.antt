use Rattle.std.proofs.Common.{◌<◌, ◌≡◌, ◌∙◌, ap, List, [], length, sym, subst, arith, Some, slice_get}
use Rattle.std.proofs.lemmas.Option.{slice_get_within}
use Rattle.vx_exchange.specs.LaneView.{LaneView}
use Rattle.vx_exchange.proofs.LaneLists.{get-set_other, unchanged, below-set, all-from_lanes}
use Rattle.vx_exchange.proofs.lanes.next_packet.Goals as goal

pub loop-consumer-preserved : goal.loop-consumer-preserved
loop-consumer-preserved c =
    let items = c.loop-consumer.lanes.items in
    let k = c.loop-consumer.consumer in
    let i = c.loop-consumer.invariant in
    let o = c.index_mut.result.now in
    let o' = c.next_packet.new.self in
    let many = ap (λ (zs : List LaneView). length zs) i.0 in
    let test = c.loop-consumer-test.true in
    let end = c.len-consumer-end.ensures in
    let within : k < length items = omega (arith, many, test, end) in
    let same = c.in_default.ensures.same in (
      unchanged items k o o' c.index_mut.ensures.value same ∙ i.0,
      below-set (λ z. z.ready ≡ []) items k o' within (ap (λ (z : LaneView). z.ready) same ∙ c.in_default.ensures.none) i.1,
    )

pub returns-clause-none : goal.returns-clause-none
returns-clause-none c =
    let old = c.args.lanes.now.items in
    let i = c.loop-consumer.invariant in
    let test = c.loop-consumer-test.false in
    let end = c.len-consumer-end.ensures in
    all-from_lanes (λ o. o.ready ≡ []) old (λ j o h. i.1 j o (let there = slice_get_within old j o h in omega (arith, test, end, there)) (subst (λ zs. slice_get zs j ≡ Some o) (sym i.0) h))

pub returns-in-Some-clause-before : goal.returns-in-Some-clause-before
returns-in-Some-clause-before c =
    let items = c.loop-consumer.lanes.items in
    let k = c.loop-consumer.consumer in
    λ j o l e. c.loop-consumer.invariant.1 j o l (sym (get-set_other items k j c.next_packet.new.self (omega (arith, l))) ∙ e)

pub returns-clause-before : goal.returns-clause-before
returns-clause-before c =
    let items = c.loop-consumer.lanes.items in
    let i = c.loop-consumer.invariant in
    let many = ap (λ (zs : List LaneView). length zs) i.0 in
    let test = c.loop-consumer-test.false in
    let end = c.len-consumer-end.ensures in
    λ j o l e. i.1 j o (let there = slice_get_within items j o e in omega (arith, many, test, end, there)) e
