use Rattle.std.proofs.Common.{ap, arith}
use Rattle.std.proofs.lemmas.List.{length-take-le}
use Rattle.vx_match_merging.specs.Merged.{MergeView}
use Rattle.vx_match_merging.proofs.NumberTurns.{has-numbers, call-numbered}
use Rattle.vx_match_merging.proofs.merging.MergeRows.join_block.Goals as goal

pub join_numbers-requires-clause-left_room : goal.join_numbers-requires-clause-left_room
join_numbers-requires-clause-left_room c =
    let read = c.read_keys-left_count.ensures in
    let long = length-take-le c.read_keys-left_count.result c.read_keys-left_count.new.numbers read.many in
    let room = read.room in
    omega (arith, long, room)

pub join_numbers-requires-clause-right_room : goal.join_numbers-requires-clause-right_room
join_numbers-requires-clause-right_room c =
    let read = c.read_keys-right_count.ensures in
    let long = length-take-le c.read_keys-right_count.result c.read_keys-right_count.new.numbers read.many in
    let room = read.room in
    omega (arith, long, room)

pub returns-clause-joined : goal.returns-clause-joined
returns-clause-joined c = λ earlier passed ys h.
    let left = c.read_keys-left_count in
    let right = c.read_keys-right_count in
    let m = c.self.inside in
    let view : MergeView =
    record { lefts = m.left_order.items; rights = m.right_order.items; left = m.left; next = m.next; right = m.right; start = m.start; end = m.end; left_ended = m.left_ended; right_ended = m.right_ended } in
    call-numbered view _ c.self.view_is earlier passed ys _ _ _ _ c.in_ok-to.to.next c.in_ok-to.to.start c.in_ok-to.to.end h
    (λ merged. c.in_ok-to.ensures.joined view earlier passed ys
    (has-numbers view (record { next = m.next; start = m.start; end = m.end }) _ c.deref.result.now c.deref-2.result.now c.deref.ensures.value c.deref-2.ensures.value (let n = c.if-len-ne1.false in let l = c.len.ensures in omega (arith, n, l)) c.index.result.now (ap (λ e. e.falling) c.index.ensures) c.self.invariant.5
    left.result right.result left.new.numbers right.new.numbers left.ensures.many right.ensures.many left.ensures.within right.ensures.within left.ensures.keys right.ensures.keys) merged)
