-- Why nothing is computed.
use Rattle.std.specs.Prelude.{◌≡◌, List, Option, None}
use Rattle.vx_rows_values.specs.Values.{Row}
use Rattle.vx_ops_computing.specs.declared.fault.ComputeFault.{ComputeFault}
use Rattle.vx_ops_computing.specs.declared.fault.ComputeFault.TheVariants.{Overflow, NoMemory}

-- an overflow says this; want of memory excuses
abbrev pub Blames : Type 0 → ComputeFault → Type 0
Blames overflows Overflow = overflows
Blames overflows NoMemory = Unit {0}

-- an overflow says that an operator makes nothing of its rows
abbrev pub ComputeBlame : Option (List Row) → ComputeFault → Type 0
ComputeBlame made e = Blames (made ≡ None) e
