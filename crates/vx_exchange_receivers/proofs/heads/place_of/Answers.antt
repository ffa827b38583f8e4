use Rattle.std.proofs.Common.{rules, arith, ◌≢◌, ◌<◌, ◌+◌, ◌-◌, ◌/◌, length, get_or}
use Rattle.std.proofs.lemmas.List.{get_or_default}
use Rattle.std.proofs.lemmas.Option.{slice_get_within}
use Rattle.vx_exchange_receivers.specs.Heads.{HasRowAt}
use Rattle.vx_exchange_receivers.proofs.Places.{place-row, read-before, read-behind, halves-up, halves-down, not-in}
use Rattle.vx_exchange_receivers.proofs.heads.place_of.Goals as goal

pub offset_bounds-heads-q : goal.offset_bounds-heads-q
offset_bounds-heads-q c =
    let hs = c.args.heads.now in
    let order = c.args.order.now in
    let mid = c.halves.low + (c.halves.high - c.halves.low) / 2 in
    let test = c.halves-test.true in
    let bound = c.halves.invariant.bound in
    let near : mid < length c.args.order.now = omega (arith, test, bound) in
    let q = get_or order mid 0 in
    let r : HasRowAt hs q = c.requires.order.there mid 0 near in
    let within : q < length hs = slice_get_within hs q r.0 r.1 in
    search rules

pub bounds-heads-q : goal.bounds-heads-q
bounds-heads-q c =
    let hs = c.args.heads.now in
    let order = c.args.order.now in
    let mid = c.halves.low + (c.halves.high - c.halves.low) / 2 in
    let test = c.halves-test.true in
    let bound = c.halves.invariant.bound in
    let near : mid < length c.args.order.now = omega (arith, test, bound) in
    let q = get_or order mid 0 in
    let r : HasRowAt hs q = c.requires.order.there mid 0 near in
    let within : q < length hs = slice_get_within hs q r.0 r.1 in
    within

pub bounds-heads-q-in-halves : goal.bounds-heads-q-in-halves
bounds-heads-q-in-halves c =
    let hs = c.args.heads.now in
    let order = c.args.order.now in
    let mid = c.halves.low + (c.halves.high - c.halves.low) / 2 in
    let test = c.halves-test.true in
    let bound = c.halves.invariant.bound in
    let near : mid < length c.args.order.now = omega (arith, test, bound) in
    let q = get_or order mid 0 in
    let r : HasRowAt hs q = c.requires.order.there mid 0 near in
    let within : q < length hs = slice_get_within hs q r.0 r.1 in
    within

pub goes_before-requires-clause-row : goal.goes_before-requires-clause-row
goes_before-requires-clause-row c =
    let hs = c.args.heads.now in
    let order = c.args.order.now in
    let mid = c.halves.low + (c.halves.high - c.halves.low) / 2 in
    let test = c.halves-test.true in
    let bound = c.halves.invariant.bound in
    let near : mid < length c.args.order.now = omega (arith, test, bound) in
    let q = get_or order mid 0 in
    let r : HasRowAt hs q = c.requires.order.there mid 0 near in
    let within : q < length hs = slice_get_within hs q r.0 r.1 in
    place-row hs q c.index-heads-q.result r

pub halves-preserved-then-goes_before : goal.halves-preserved-then-goes_before
halves-preserved-then-goes_before c =
    let hs = c.args.heads.now in
    let order = c.args.order.now in
    let mid = c.halves.low + (c.halves.high - c.halves.low) / 2 in
    let test = c.halves-test.true in
    let bound = c.halves.invariant.bound in
    let near : mid < length c.args.order.now = omega (arith, test, bound) in
    let q = get_or order mid 0 in
    let r : HasRowAt hs q = c.requires.order.there mid 0 near in
    let within : q < length hs = slice_get_within hs q r.0 r.1 in
    record {
      order = omega (arith, test);
      bound = bound;
      before = halves-up c.args.merge.now hs order c.args.p q mid c.requires.order.rises near (get_or_default order mid 0 q near) (read-before c.args.merge.now hs c.args.p q c.index-heads-q.result r (c.goes_before.ensures.before c.if-goes_before.true));
      behind = c.halves.invariant.behind;
    }

pub halves-preserved : goal.halves-preserved
halves-preserved c =
    let hs = c.args.heads.now in
    let order = c.args.order.now in
    let mid = c.halves.low + (c.halves.high - c.halves.low) / 2 in
    let test = c.halves-test.true in
    let bound = c.halves.invariant.bound in
    let near : mid < length c.args.order.now = omega (arith, test, bound) in
    let q = get_or order mid 0 in
    let r : HasRowAt hs q = c.requires.order.there mid 0 near in
    let within : q < length hs = slice_get_within hs q r.0 r.1 in
    let ne : q ≢ c.args.p = not-in order c.args.p q mid near (get_or_default order mid 0 q near) c.requires.other in
    record {
      order = omega (arith, test);
      bound = omega (arith, near);
      before = c.halves.invariant.before;
      behind = halves-down c.args.merge.now hs order c.args.p q mid c.requires.order.rises near (get_or_default order mid 0 q near) (read-behind c.args.merge.now hs c.args.p q c.index-heads-q.result r (c.goes_before.ensures.behind c.if-goes_before.false ne));
    }
