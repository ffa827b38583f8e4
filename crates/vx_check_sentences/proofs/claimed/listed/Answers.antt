use Rattle.std.proofs.Common.{arith}
use Rattle.vx_check_rules.specs.Seen.{order_seen}
use Rattle.vx_check_sentences.proofs.EntryFacts.{entry-next, entries-all}
use Rattle.vx_check_sentences.proofs.claimed.listed.Goals as goal

pub loop-place-preserved : goal.loop-place-preserved
loop-place-preserved c = entry-next (order_seen c.args.order) c.loop-place.place c.at.result _ _ c.at.ensures c.loop-place.invariant c.in_ok-push.ensures.items

pub returns : goal.returns
returns c = entries-all (order_seen c.args.order) c.loop-place.place _ (omega (arith, c.loop-place-test.false, c.len-place-end.ensures)) c.loop-place.invariant
