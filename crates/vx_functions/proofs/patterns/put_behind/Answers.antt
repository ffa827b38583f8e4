use Rattle.std.proofs.Common.{◌∙◌, arith}
use Rattle.vx_functions.proofs.patterns.put_behind.Goals as goal

pub returns : goal.returns
returns c = λ f is.
    let l = is.long in
    record {
      long = c.loop-place.invariant.long ∙ is.long;
      each = λ i k. c.loop-place.invariant.done f is i (omega (arith, k, l, c.loop-place-test.false, c.loop-place.auto.place-end, c.loop-place.invariant.long));
    }
