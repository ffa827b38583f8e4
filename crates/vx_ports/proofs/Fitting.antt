-- What a packet brings fits its types.
use Rattle.std.specs.Prelude.{List}
use Rattle.std.specs.List.{AllByRecursion}
use Rattle.vx_rows_values.specs.Values.{Row}
use Rattle.vx_rows_values.specs.Types.{Fits}
use Rattle.vx_rows_values.specs.declared.value.ColType.{ColType}
use Rattle.vx_ports.specs.Packets.{HasFew, FitsContent}
use Rattle.vx_ports.specs.Seen.{content_of}
use Rattle.vx_ports.specs.declared.packet.PacketKind.{PacketKind}
use Rattle.vx_ports.specs.declared.packet.PacketKind.TheVariants as kind

pub content-fits : (k : PacketKind) (types : List ColType) (xs : List Row) → HasFew (content_of k xs) → AllByRecursion (Fits types) xs → FitsContent types (content_of k xs)
content-fits kind.Rows types xs few fit = (few.0, few.1, fit)
content-fits kind.Last types xs few fit = tt
content-fits kind.Fault types xs few fit = tt
