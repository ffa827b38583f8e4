use Rattle.std.proofs.Common.{subst}
use Rattle.vx_ports.specs.Packets.{PacketView, FitsContent}
use Rattle.vx_ports.proofs.Fitting.{content-fits}
use Rattle.vx_ports.proofs.packet.Packet.types.Goals as goal

pub returns-clause-fit : goal.returns-clause-fit
returns-clause-fit c =
    let p = c.self.inside in
    subst (λ (v : PacketView). FitsContent v.types v.content) c.self.view_is (content-fits p.kind p.rows.types p.rows.rows c.self.invariant c.types.ensures.fit)
