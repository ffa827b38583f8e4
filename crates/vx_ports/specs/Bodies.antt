-- What a packet hands over.
use Rattle.std.specs.Prelude.{◌≡◌}
use Rattle.vx_ports.specs.Packets.{PacketView, brings}
use Rattle.vx_ports.specs.Seen.{ending_content}
use Rattle.vx_ports.specs.declared.packet.Body.{Body}
use Rattle.vx_ports.specs.declared.packet.Body.TheVariants as body

-- the rows of the packet, or how it ends the stream
abbrev pub IsBody : PacketView → Body → Type 0
IsBody p (body.Rows r) = (p.types ≡ r.types) × (p.content ≡ brings r.rows)
IsBody p (body.End e) = p.content ≡ ending_content e
