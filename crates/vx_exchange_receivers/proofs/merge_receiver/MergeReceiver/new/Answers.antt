use Rattle.vx_exchange_receivers.proofs.MergeEnds.{merging-fresh}
use Rattle.vx_exchange_receivers.proofs.merge_receiver.MergeReceiver.new.Goals as goal

pub returns-clause-stands : goal.returns-clause-stands
returns-clause-stands c = merging-fresh (record { exchange = c.args.exchange; place = c.args.place; types = c.args.types }) _ c.in_ok-kernel.ensures.nothing
