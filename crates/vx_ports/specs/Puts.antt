-- What a put returns.
use Rattle.std.specs.Prelude.{◌≡◌}
use Rattle.vx_ports.specs.Packets.{PacketView}
use Rattle.vx_ports.specs.declared.port.Put.{Put}
use Rattle.vx_ports.specs.declared.port.Put.TheVariants.{Done, Full, NoMemory}

-- the packet was put, or is returned
abbrev pub PutOutcome : PacketView → Put → Type 0 → Type 0 → Type 0
PutOutcome p Done Puts Stays = Puts
PutOutcome p (Full q) Puts Stays = (q ≡ p) × Stays
PutOutcome p (NoMemory q) Puts Stays = (q ≡ p) × Stays

abbrev pub IsDone : Put → Type 0
IsDone Done = Unit {0}
IsDone (Full q) = ⊥
IsDone (NoMemory q) = ⊥

abbrev pub IsNeverFull : Put → Type 0
IsNeverFull Done = Unit {0}
IsNeverFull (Full q) = ⊥
IsNeverFull (NoMemory q) = Unit {0}
