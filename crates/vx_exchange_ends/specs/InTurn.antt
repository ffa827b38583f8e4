-- Producers that are asked in turn (round robin).
use Rattle.std.specs.Prelude.{ℕ, ◌≡◌, ◌+◌, ◌<◌, nat_lt, cond, Bool, true, List, length, slice_get, Some}

-- the turn of place k of n, where place `from` comes first
abbrev pub turn_of : (from n k : ℕ) → ℕ
turn_of from n k = cond (nat_lt k from) (n + k) k

-- the flags of all places whose turn is before that of this one are set
abbrev pub IsInTurn : (from : ℕ) → List Bool → (next : ℕ) → Type 0
IsInTurn from flags next = (k : ℕ) → k < length flags → turn_of from (length flags) k < turn_of from (length flags) next → slice_get flags k ≡ Some true
