-- The bytes of a port, counted as they are read.
use Rattle.std.specs.Prelude.{◌≡◌, ℕ, ◌+◌, ◌==◌, ◌≤◌, nat_le, List, length, Option, Some, None, IsSome, if◌then◌else◌, Bool, true, false, ◌&&◌, ◌||◌, not, Result, Err, ◌⊎◌}
use Rattle.vx_catalog_bytes.specs.Ports.{IsOver}
use Rattle.vx_catalog.specs.declared.fault.LoadFault.{LoadFault}
use Rattle.vx_catalog.specs.declared.fault.LoadFault.TheVariants as fault
use Rattle.vx_rows_values.specs.Limits.{max_text_bytes}

-- where the text and the bytes that are left of it are known, those that were read and those that are left are no more than the text
abbrev pub is_within : Option (List ℕ) → Option (List ℕ) → ℕ → Bool
is_within None rest taken = true
is_within (Some text) None taken = false
is_within (Some text) (Some rest) taken = nat_le (taken + length rest) (length text)

-- so many bytes of a text were read where these are left, and at its end none is
abbrev pub is_count : List ℕ → List ℕ → ℕ → Bool → Bool
is_count text rest taken at_end = (length text == taken + length rest) && (not at_end || (length rest == 0))

-- the bytes that are left of a known text of which so many were read
abbrev pub left_of : Option (List ℕ) → Option (List ℕ) → ℕ → Bool → Option (List ℕ)
left_of None rest taken at_end = None
left_of (Some text) None taken at_end = None
left_of (Some text) (Some rest) taken at_end = if is_count text rest taken at_end then Some rest else None

-- what was known is still known
abbrev pub StaysKnown : Option (List ℕ) → Option (List ℕ) → Type 0
StaysKnown None new = Unit {0}
StaysKnown (Some old) new = IsSome new

-- a text is no larger than it may be, where it is known
abbrev pub IsSmall : Option (List ℕ) → Type 0
IsSmall None = Unit {0}
IsSmall (Some text) = length text ≤ max_text_bytes

-- what is answered of a text that was read so: that memory ran out, that it is too large, or what was read, where it is small
abbrev pub Settles : {X : Type 0} → Option (List ℕ) → Result X LoadFault → Result X LoadFault → Type 0
Settles text read result = (result ≡ Err fault.NoMemory) ⊎ ((result ≡ Err fault.TooLarge) × IsOver max_text_bytes text) ⊎ ((result ≡ read) × IsSmall text)
