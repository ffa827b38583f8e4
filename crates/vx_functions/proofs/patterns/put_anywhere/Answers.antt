use Rattle.std.proofs.Common.{◌∙◌, ◌≢◌, ◌-◌, false, arith, refl}
use Rattle.std.proofs.lemmas.List.{length-set, get_or-set_other}
use Rattle.vx_functions.proofs.RowFacts.{anywhere-goes}
use Rattle.vx_functions.proofs.patterns.put_anywhere.Goals as goal

pub loop-back-preserved : goal.loop-back-preserved
loop-back-preserved c =
    let row = c.loop-back.row in
    let last = c.saturating_sub-last.result in
    let place = last - 1 - c.loop-back.back in
    let more = c.loop-back-test.true in
    record {
      long = length-set row place c.holds_at_either-holds.result ∙ c.loop-back.invariant.long;
      done = λ f cs is. anywhere-goes f cs c.args.row.now row last c.loop-back.back place c.holds_at_either-holds.result is c.loop-back.invariant.long
          (omega (arith, c.saturating_sub-last.ensures)) (omega (arith, more, c.loop-back.auto.back-end)) refl c.holds_at_either-holds.ensures (c.loop-back.invariant.done f cs is) c.loop-back.invariant.left;
      left = λ i l.
          let other : i ≢ place = λ e. absurd (omega (arith, l, e, more)) in
          get_or-set_other row place i c.holds_at_either-holds.result false other ∙ c.loop-back.invariant.left i (omega (arith, l));
    }
