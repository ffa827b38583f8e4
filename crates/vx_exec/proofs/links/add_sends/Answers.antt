use Rattle.std.proofs.Common.{refl}
use Rattle.vx_exec.proofs.Each.{each-begun, each-pushed}
use Rattle.vx_exec.proofs.links.add_sends.Goals as goal

pub loop-init : goal.loop-init
loop-init c = each-begun (λ _. c.in-Exchange.exchange.number) c.args.sends.now.items

pub loop-preserved : goal.loop-preserved
loop-preserved c =
    each-pushed (λ _. c.in-Exchange.exchange.number) c.loop.counter c.args.sends.now.items c.loop.sends.items c.push.new.self.items c.in-Exchange.exchange.number
    c.in_ok-push.ensures.items refl c.loop.invariant
