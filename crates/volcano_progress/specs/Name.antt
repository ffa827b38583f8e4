-- Which relation's text is at a path, and how its name is shown on one line of a terminal.
use Rattle.std.specs.Prelude.{◌≡◌, ℕ, ◌-◌, ◌<◌, ◌≤◌, ◌==◌, ◌||◌, ◌&&◌, Bool, true, false, List, [], ◌∷◌, length, take, codes, nat_lt, nat_eq, if◌then◌else◌, slice_index}
use Rattle.std.specs.List.{ends_with, list_any}

-- the file has the text of a relation
abbrev pub IsTable : List ℕ → Type 0
IsTable path = ends_with nat_eq path (codes ".csv") ≡ true

-- a byte is a slash
abbrev pub is_slash : ℕ → Bool
is_slash b = b == 47

-- what follows the last slash, or all if there is none
abbrev pub after_slash : List ℕ → List ℕ
after_slash [] = []
after_slash (b ∷ bs) = if list_any is_slash (b ∷ bs) then after_slash bs else b ∷ bs

-- the name of the relation whose text is at the path: without the folder, and without `.csv`
abbrev pub name_in : List ℕ → List ℕ
name_in path = after_slash (take (length path - 4) path)

-- a byte goes on with a character that began before it
abbrev pub is_continuation : ℕ → Bool
is_continuation b = nat_lt 127 b && nat_lt b 192

-- the longest front of a name that has at most 40 bytes and ends where a character does
pub record IsFront (name shown : List ℕ) : Type 0 where
  pub front : shown ≡ take (length shown) name
  pub short : length shown ≤ 40
  pub whole : length name ≤ 40 → shown ≡ name
  pub ends : 0 < length shown → length shown < length name → is_continuation (slice_index name (length shown)) ≡ false
  pub longest : (k : ℕ) → length shown < k → k ≤ 40 → k < length name → is_continuation (slice_index name k) ≡ true

-- a byte as it is shown: a question mark stands for what would move the cursor
abbrev pub plain_byte : ℕ → ℕ
plain_byte b = if nat_lt b 32 || b == 127 then 63 else b
