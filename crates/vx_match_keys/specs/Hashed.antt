-- The hash of a key.
use Rattle.std.specs.Prelude.{◌≡◌, ℕ, ◌<◌, List, length, slice_index_or, fold}
use Rattle.std.specs.Hash.FoldHasher.{write, finish}
use Rattle.std.specs.declared.hash.FoldHasher.{FoldHasher}
use Rattle.vx_rows_values.specs.declared.key_seed.KeySeed.{KeySeed}
use Rattle.vx_rows_values.specs.Values.{Row}
use Rattle.vx_rows.specs.Hashing.{row_feed}

-- what a hasher of this seed makes of the values, in order
abbrev pub key_hash : KeySeed → Row → ℕ
key_hash seed row = finish (fold write seed.hasher (row_feed row))

-- each of these hashers has the values of a row more: the first those of row 0, and so on
abbrev pub AreFed : List FoldHasher → (ℕ → Row) → List FoldHasher → Type 0
AreFed before rows after = (k : ℕ) → k < length before → (d : FoldHasher) → slice_index_or after k d ≡ fold write (slice_index_or before k d) (row_feed (rows k))
