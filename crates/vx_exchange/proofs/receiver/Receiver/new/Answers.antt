use Rattle.std.proofs.Common.{arith}
use Rattle.vx_exchange.proofs.Arrivals.{port-fresh}
use Rattle.vx_exchange.proofs.receiver.Receiver.new.Goals as goal

pub returns-clause-stands : goal.returns-clause-stands
returns-clause-stands c =
    let all = c.in_ok-ended.ensures.items_if_clones_equal (λ y h. h) in
    let some = c.requires.some in
    port-fresh c.args.exchange c.args.place c.args.producers c.args.types.items c.in_ok-ended.ended.items all (omega arith)
