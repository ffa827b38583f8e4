-- What a port's answer to a put says of the wires.
use Rattle.std.specs.Prelude.{ℕ, ◌≡◌, false}
use Rattle.vx_ports.specs.Packets.{PacketView, closes}
use Rattle.vx_ports.specs.declared.port.Put.{Put}
use Rattle.vx_ports.specs.declared.port.Put.TheVariants as put
use Rattle.vx_worker.specs.Trace.{Event, idle, put_one}

-- the packet went in, or came back and nothing happened: only from a full port, or for memory; a packet that closes the stream is never refused for memory
abbrev pub PutGives : {W : Type 0} → (Does : W → Event → W → Type 0) → (IsFull : W → ℕ → Type 0) → W → W → ℕ → PacketView → Put → Type 0
PutGives Does IsFull old new to packet put.Done = Does old (put_one to packet) new
PutGives Does IsFull old new to packet (put.Full p) = (p ≡ packet) × IsFull old to × Does old idle new
PutGives Does IsFull old new to packet (put.NoMemory p) = (closes packet.content ≡ false) × Does old idle new
