-- What a ring never returns.
use Rattle.vx_ports.specs.declared.port.Put.{Put}
use Rattle.vx_ports.specs.declared.port.Put.TheVariants.{Done, Full, NoMemory}

-- it is never out of memory
abbrev pub IsNeverNoMemory : Put → Type 0
IsNeverNoMemory Done = Unit {0}
IsNeverNoMemory (Full q) = Unit {0}
IsNeverNoMemory (NoMemory q) = ⊥
