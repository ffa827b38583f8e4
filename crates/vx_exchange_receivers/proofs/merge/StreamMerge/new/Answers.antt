use Rattle.vx_exchange_receivers.proofs.Merges.{nothing-merged}
use Rattle.vx_exchange_receivers.proofs.HeadsLeft.{none-left}
use Rattle.vx_exchange_receivers.proofs.merge.StreamMerge.new.Goals as goal

pub returns-clause-nothing : goal.returns-clause-nothing
returns-clause-nothing c = nothing-merged c.args.merge.items c.args.types.now c.in_ok-heads.heads.items c.in_ok-heads.ensures.fresh

pub returns-clause-none_left : goal.returns-clause-none_left
returns-clause-none_left c = none-left c.args.types.now c.in_ok-heads.heads.items c.in_ok-heads.ensures.fresh
