-- Files that are replaced by new ones.
use Rattle.std.specs.Prelude.{◌≡◌, ℕ, List, [], Option, Some}
use Rattle.vx_catalog_bytes.specs.Stored.{Stored, silent, absent, present, OpensAs}

-- what a new file holds, where anything is known of its place: nothing
abbrev pub IsNew : Stored → Option (List ℕ) → Type 0
IsNew silent known = Unit {0}
IsNew absent known = known ≡ Some []
IsNew (present xs) known = known ≡ Some []

-- what is known of a place before and after a file with these bytes was put there
abbrev pub IsPut : (before after : Stored) → Option (List ℕ) → Type 0
IsPut silent after known = after ≡ silent
IsPut absent after known = OpensAs after known
IsPut (present xs) after known = OpensAs after known
