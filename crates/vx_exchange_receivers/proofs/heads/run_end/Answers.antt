use Rattle.std.proofs.Common.{arith, ◌<◌, length}
use Rattle.vx_exchange_receivers.proofs.Places.{run-rest}
use Rattle.vx_exchange_receivers.proofs.heads.run_end.Goals as goal

pub returns : goal.returns
returns c =
    let many = c.if-order-eq1.false in
    let some = c.requires.some in
    let e = c.run_before.ensures in
    let l : 1 < length c.args.order.now = grind (arith, many, some) in
    run-rest c.args.merge.now c.args.heads.now c.args.order.now c.run_before.result c.requires.order l e.more e.within e.least
