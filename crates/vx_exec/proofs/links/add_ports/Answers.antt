use Rattle.vx_rows.specs.Lists.{each_below}
use Rattle.vx_exec_steps.specs.Queues.{open_line}
use Rattle.vx_exec.proofs.Each.{each-begun, each-pushed, each-alike}
use Rattle.vx_exec.proofs.links.add_ports.Goals as goal

pub loop-init : goal.loop-init
loop-init c = each-begun (λ _. each_below c.in-Exchange.exchange.consumers (λ _. open_line)) c.args.ports.now.items

pub loop-preserved : goal.loop-preserved
loop-preserved c =
    let made = c.in_ok-new in
    each-pushed (λ _. each_below c.in-Exchange.exchange.consumers (λ _. open_line)) c.loop.counter c.args.ports.now.items c.loop.ports.items c.push.new.self.items made.field-0
    c.in_ok-push.ensures.items (each-alike c.in-Exchange.exchange.consumers open_line made.field-0 made.ensures.count made.ensures.empty) c.loop.invariant
