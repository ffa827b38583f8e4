-- What a packet of the program brings, as plain data.
use Rattle.std.specs.Prelude.{List}
use Rattle.vx_rows_values.specs.Values.{Row}
use Rattle.vx_ports.specs.Packets.{Content, brings, last, fault}
use Rattle.vx_ports.specs.declared.packet.PacketKind.{PacketKind}
use Rattle.vx_ports.specs.declared.packet.PacketKind.TheVariants as kind
use Rattle.vx_ports.specs.declared.packet.StreamEnd.{StreamEnd}
use Rattle.vx_ports.specs.declared.packet.StreamEnd.TheVariants as stream_end

-- the content of a packet of this kind with these rows
abbrev pub content_of : PacketKind → List Row → Content
content_of kind.Rows xs = brings xs
content_of kind.Last xs = last
content_of kind.Fault xs = fault

abbrev pub ending_content : StreamEnd → Content
ending_content stream_end.Last = last
ending_content stream_end.Fault = fault
