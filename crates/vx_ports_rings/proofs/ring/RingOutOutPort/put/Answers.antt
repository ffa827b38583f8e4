use Rattle.std.proofs.Common.{ap, ◌∙◌, sym}
use Rattle.rtrb.specs.Ring.{sent}
use Rattle.vx_ports.specs.Packets.{is_stream, is_closed}
use Rattle.vx_ports_rings.proofs.Streams.{stream-behind, closed-behind}
use Rattle.vx_ports_rings.proofs.ring.RingOutOutPort.put.Goals as goal

pub invariant_of-self : goal.invariant_of-self
invariant_of-self c =
    let more = c.in-Ok.ensures.ok.0 in
    let before = sent c.args.self.now.producer in
    record {
      closed_is = c.is_closing-closes.ensures ∙ sym (closed-behind before c.args.packet c.requires) ∙ sym (ap is_closed more);
      stream = ap is_stream more ∙ stream-behind before c.args.packet c.args.self.now.stream c.requires;
    }
