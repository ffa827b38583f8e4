use Rattle.std.proofs.Common.{◌<◌, ◌≡◌, ◌∙◌, ◌+◌, ℕ, List, length, map, get_or, [], ap, sym, subst, false, arith}
use Rattle.std.proofs.lemmas.List.{length-map}
use Rattle.std.specs.Prelude.{slice_range}
use Rattle.vx_rows_values.specs.Values.{Row}
use Rattle.vx_rows.specs.View.{row, ArePositions}
use Rattle.vx_plan_nodes.specs.Streams.{Streams}
use Rattle.vx_exchange.specs.LaneView.{Cuts}
use Rattle.vx_exchange.proofs.LaneLists.{cuts-none, cuts-more, cuts-all, next-was, same-count, same-along, same-set, all-lanes}
use Rattle.vx_exchange.proofs.PlaceFacts.{lists}
use Rattle.vx_exchange.proofs.Concat.{joined, start, start-first, start-next, part-within, part-rows, joined-positions}
use Rattle.vx_exchange.proofs.deal.deal_places.Goals as goal

pub loop-consumer-init : goal.loop-consumer-init
loop-consumer-init c =
    let more : Streams = λ j. map (row c.args.rows.now) (get_or (lists c.args.places.now) j []) in
    record { at = start-first c.args.places.now; cuts = cuts-none more c.args.lanes.now.items }

pub at-requires : goal.at-requires
at-requires c =
    let n = length c.args.rows.now.rows in
    let are : c.as_slice.result.now ≡ joined c.args.places.now = c.as_slice.ensures.value ∙ c.in_ok-join_places.ensures in
    let P : List ℕ → Type 0 = λ ps. ArePositions n ps in
    subst P (sym are) (joined-positions n c.args.places.now c.requires.there)

pub overflow_add-to : goal.overflow_add-to
overflow_add-to c =
    let places = c.args.places.now in
    let k = c.loop-consumer.consumer in
    let v = c.index-places-consumer.result in
    let all = c.join_places.new.all in
    let test = c.loop-consumer-test.true in
    let end = c.len-consumer-end.ensures in
    let many = c.requires.many in
    let near : k < length places = omega (arith, test, end, many) in
    let within = part-within places k v near c.index-places-consumer.is in
    let are = ap length c.in_ok-join_places.ensures in
    let at = c.loop-consumer.invariant.at in
    let ok = all.ok in
    let small = all.small in
    omega (arith, within, are, at, c.len.ensures, v.ok.0, ok.0, ok.1, small)

pub add_part-requires-clause-there : goal.add_part-requires-clause-there
add_part-requires-clause-there c =
    let places = c.args.places.now in
    let k = c.loop-consumer.consumer in
    let v = c.index-places-consumer.result in
    let test = c.loop-consumer-test.true in
    let end = c.len-consumer-end.ensures in
    let many = c.requires.many in
    let near : k < length places = omega (arith, test, end, many) in
    let within = part-within places k v near c.index-places-consumer.is in
    let are : c.in_ok-sorted.sorted.rows ≡ map (row c.args.rows.now) (joined places) =
    c.in_ok-sorted.ensures.rows ∙ ap (map (row c.args.rows.now)) (c.as_slice.ensures.value ∙ c.in_ok-join_places.ensures) in
    let long = ap (λ (rs : List Row). length rs) are ∙ length-map (joined places) (row c.args.rows.now) in
    let at = c.loop-consumer.invariant.at in
    omega (arith, within, long, at, c.len.ensures, v.ok.0)

pub add_part-requires-clause-types : goal.add_part-requires-clause-types
add_part-requires-clause-types c =
    let more : Streams = λ j. map (row c.args.rows.now) (get_or (lists c.args.places.now) j []) in
    let old = c.args.lanes.now.items in
    let items = c.loop-consumer.lanes.items in
    let k = c.loop-consumer.consumer in
    let o = c.index_mut.result.now in
    let many = same-count old items c.loop-consumer.invariant.cuts.same in
    let test = c.loop-consumer-test.true in
    let end = c.len-consumer-end.ensures in
    let within : k < length items = omega (arith, many, test, end) in
    c.in_ok-sorted.ensures.types ∙ all-lanes (λ z. c.args.rows.now.types ≡ z.way.types) old c.requires.types k o (next-was k more old items o within c.index_mut.ensures.value c.loop-consumer.invariant.cuts)

pub add_part-requires-clause-open : goal.add_part-requires-clause-open
add_part-requires-clause-open c =
    let more : Streams = λ j. map (row c.args.rows.now) (get_or (lists c.args.places.now) j []) in
    let old = c.args.lanes.now.items in
    let items = c.loop-consumer.lanes.items in
    let k = c.loop-consumer.consumer in
    let o = c.index_mut.result.now in
    let many = same-count old items c.loop-consumer.invariant.cuts.same in
    let test = c.loop-consumer-test.true in
    let end = c.len-consumer-end.ensures in
    let within : k < length items = omega (arith, many, test, end) in
    all-lanes (λ z. z.closed ≡ false) old c.requires.open k o (next-was k more old items o within c.index_mut.ensures.value c.loop-consumer.invariant.cuts)

pub loop-consumer-preserved : goal.loop-consumer-preserved
loop-consumer-preserved c =
    let more : Streams = λ j. map (row c.args.rows.now) (get_or (lists c.args.places.now) j []) in
    let old = c.args.lanes.now.items in
    let items = c.loop-consumer.lanes.items in
    let k = c.loop-consumer.consumer in
    let o = c.index_mut.result.now in
    let o' = c.add_part.new.self in
    let many = same-count old items c.loop-consumer.invariant.cuts.same in
    let test = c.loop-consumer-test.true in
    let end = c.len-consumer-end.ensures in
    let within : k < length items = omega (arith, many, test, end) in
    let e = c.add_part.ensures in
    let P : List Row → Type 0 = λ rows. Cuts o.way o.current o.ready rows o'.current o'.ready in
    let places = c.args.places.now in
    let v = c.index-places-consumer.result in
    let many' = c.requires.many in
    let near : k < length places = omega (arith, test, end, many') in
    let at = c.loop-consumer.invariant.at in
    let from = c.loop-consumer.from in
    let g = row c.args.rows.now in
    let n : c.len.result ≡ length v.items = omega (arith, c.len.ensures, v.ok.0) in
    let are : c.in_ok-sorted.sorted.rows ≡ map g (joined places) = c.in_ok-sorted.ensures.rows ∙ ap (map g) (c.as_slice.ensures.value ∙ c.in_ok-join_places.ensures) in
    let part : slice_range c.in_ok-sorted.sorted.rows from (from + c.len.result) ≡ map g (get_or (lists places) k []) =
    ap (λ (rs : List Row). slice_range rs from (from + c.len.result)) are
    ∙ (ap (λ i. slice_range (map g (joined places)) i (i + c.len.result)) at
    ∙ (ap (λ i. slice_range (map g (joined places)) (start k places) (start k places + i)) n ∙ part-rows g places k v near c.index-places-consumer.is)) in
    let next = start-next places k v near c.index-places-consumer.is in
    record {
      at = omega (arith, next, at, n);
      cuts = cuts-more k more old items o o' within c.index_mut.ensures.value e.way e.closed (subst P part c.in_ok-add_part.ensures.ok) c.loop-consumer.invariant.cuts;
    }

pub returns-in_err-add_part-clause-same : goal.returns-in_err-add_part-clause-same
returns-in_err-add_part-clause-same c =
    let old = c.args.lanes.now.items in
    let items = c.loop-consumer.lanes.items in
    let e = c.add_part.ensures in
    same-along old items _ c.loop-consumer.invariant.cuts.same (same-set items c.loop-consumer.consumer c.index_mut.result.now c.add_part.new.self c.index_mut.ensures.value e.way e.closed)

pub returns-clause-ok : goal.returns-clause-ok
returns-clause-ok c =
    let more : Streams = λ j. map (row c.args.rows.now) (get_or (lists c.args.places.now) j []) in
    let old = c.args.lanes.now.items in
    let test = c.loop-consumer-test.false in
    let end = c.len-consumer-end.ensures in
    cuts-all c.loop-consumer.consumer more old c.loop-consumer.lanes.items (omega (arith, test, end)) c.loop-consumer.invariant.cuts
