use Rattle.std.proofs.Common.{arith}
use Rattle.vx_check_rules.specs.Seen.{order_seen}
use Rattle.vx_check_options.specs.Options.{singles}
use Rattle.vx_check_options.proofs.LoopLists.{whole, single-next}
use Rattle.vx_check_options.proofs.order_choices.singles.Goals as goal

pub loop-place-preserved : goal.loop-place-preserved
loop-place-preserved c =
    single-next (order_seen c.args.order) c.loop-place.place c.at.result c.loop-place.choices.items c.push.new.self.items c.in_ok-from_slice.field-0
    (omega (arith, c.loop-place-test.true, c.len-place-end.ensures)) c.at.ensures c.in_ok-from_slice.ensures.items c.in_ok-push.ensures.items c.loop-place.invariant

pub returns : goal.returns
returns c = whole singles (order_seen c.args.order) c.loop-place.place _ (omega (arith, c.loop-place-test.false, c.len-place-end.ensures)) c.loop-place.invariant
