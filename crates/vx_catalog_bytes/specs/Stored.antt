-- What a store says of the file at a path.
use Rattle.std.specs.Prelude.{◌≡◌, ℕ, List, Option, Some, None}

-- nothing, that there is no such file, or the bytes that it has
pub data Stored : Type 0 where
  silent : Stored
  absent : Stored
  present : List ℕ → Stored

-- a reader that is there says its bytes, or nothing
abbrev pub stored_by : Option (List ℕ) → Stored
stored_by None = silent
stored_by (Some xs) = present xs

-- a store that knows all its files has these bytes, or no such file
abbrev pub stored_or_absent : Option (List ℕ) → Stored
stored_or_absent None = absent
stored_or_absent (Some xs) = present xs

-- P holds of the bytes of the file. A silent store rules nothing out, and where there is no file nothing holds of its bytes
abbrev pub IfBytes : Stored → (List ℕ → Type 0) → Type 0
IfBytes silent P = Unit {0}
IfBytes absent P = ⊥
IfBytes (present xs) P = P xs

-- there may be no such file
abbrev pub MayBeAbsent : Stored → Type 0
MayBeAbsent silent = Unit {0}
MayBeAbsent absent = Unit {0}
MayBeAbsent (present xs) = ⊥

-- there may be such a file
abbrev pub MayBePresent : Stored → Type 0
MayBePresent silent = Unit {0}
MayBePresent absent = ⊥
MayBePresent (present xs) = Unit {0}

-- a reader of the file that opened has these bytes left, where they are known
abbrev pub OpensAs : Stored → Option (List ℕ) → Type 0
OpensAs silent known = known ≡ None
OpensAs absent known = ⊥
OpensAs (present xs) known = known ≡ Some xs
