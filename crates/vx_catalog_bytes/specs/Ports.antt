-- What is known of all bytes of a reader.
use Rattle.std.specs.Prelude.{◌≡◌, ℕ, ◌<◌, List, length, Option, Some, None, ⊤, Bool, true, false}
use Rattle.vx_catalog_bytes.specs.declared.bytes.ReadFault.{ReadFault}
use Rattle.vx_catalog_bytes.specs.declared.bytes.ReadFault.TheVariants as fault

-- the bytes are all that the reader had, where these are known
abbrev pub IsAll : Option (List ℕ) → List ℕ → Type 0
IsAll None bytes = ⊤
IsAll (Some xs) bytes = xs ≡ bytes

-- the reader had more bytes than this, where these are known
abbrev pub IsOver : ℕ → Option (List ℕ) → Type 0
IsOver limit None = ⊤
IsOver limit (Some xs) = limit < length xs

-- why not all bytes, `limit` of them at most, were read from a reader that had these left and has failed or not
abbrev pub ExplainsAll : ℕ → Option (List ℕ) → Bool → ReadFault → Type 0
ExplainsAll limit known failed fault.Broken = failed ≡ true
ExplainsAll limit known failed fault.NoMemory = failed ≡ false
ExplainsAll limit known failed fault.TooLarge = IsOver limit known × (failed ≡ false)
