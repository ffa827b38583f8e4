use Rattle.std.proofs.Common.{arith, ◌<◌, ◌+◌, ◌-◌, ◌/◌, length}
use Rattle.vx_exchange_receivers.specs.Heads.{held_at}
use Rattle.vx_exchange_receivers.proofs.Places.{run-up}
use Rattle.vx_exchange_receivers.proofs.heads.run_before.Goals as goal

pub halves-preserved-then-goes_before : goal.halves-preserved-then-goes_before
halves-preserved-then-goes_before c =
    let hs = c.args.heads.now in
    let p = c.args.p in
    let mid = c.halves.low + (c.halves.high - c.halves.low) / 2 in
    let test = c.halves-test.true in
    let more = c.halves.invariant.more in
    let within = c.halves.invariant.within in
    let near : mid < length (held_at hs p) = omega (arith, test, within) in
    record {
      more = omega (arith, more);
      order = omega (arith, test);
      within = within;
      least = λ k a b. run-up c.args.merge.now hs p c.args.q mid c.requires.rises near (c.goes_before.ensures.before c.if-goes_before.true).le k (omega (arith, b));
    }
