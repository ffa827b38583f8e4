-- Why a plan is refused for its functions.
use Rattle.std.specs.Prelude.{ℕ, ◌≡◌, ◌⊎◌, Option, Some}
use Rattle.vx_exec_setup.specs.declared.fault.RunFault.{RunFault}
use Rattle.vx_exec_setup.specs.declared.fault.RunFault.TheVariants as fault

-- memory was refused, or this is the number of the first node that names a function which the program does not have
abbrev pub IsUnknownFault : Option ℕ → RunFault → Type 0
IsUnknownFault unknown e = (e ≡ fault.NoMemory) ⊎ ((node : ℕ) × (e ≡ fault.BadFunction node) × (unknown ≡ Some node))
