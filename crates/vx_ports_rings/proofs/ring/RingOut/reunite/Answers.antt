use Rattle.std.proofs.Common.{ap, ◌∙◌, sym}
use Rattle.vx_ports.specs.Packets.{is_stream}
use Rattle.vx_ports.specs.Flowing.{flow_is}
use Rattle.vx_ports_rings.proofs.ring.RingOut.reunite.Goals as goal

pub returns-clause-flows : goal.returns-clause-flows
returns-clause-flows c =
    let free = c.slots_beside-free.ensures in let waiting = c.slots_beside-waiting.ensures in
    flow_is _ _ _ (sym waiting.fifo) (ap is_stream (waiting.producer.1 ∙ free.looked.1) ∙ c.args.self.now.stream)
