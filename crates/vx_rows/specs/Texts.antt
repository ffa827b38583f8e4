-- Texts that lie one after another in one list of bytes: text k is the bytes from cut k up to cut k + 1.
use Rattle.std.specs.Prelude.{◌≡◌, ℕ, ◌+◌, ◌-◌, ◌<◌, ◌≤◌, List, length, slice_index, slice_range}
use Rattle.std.specs.Str.{IsUtf8}
use Rattle.vx_rows.specs.Lists.{each_below}

-- text k
abbrev pub piece : List ℕ → List ℕ → ℕ → List ℕ
piece bytes cuts k = slice_range bytes (slice_index cuts k) (slice_index cuts (k + 1))

-- all texts
abbrev pub pieces : List ℕ → List ℕ → List (List ℕ)
pieces bytes cuts = each_below (length cuts - 1) (piece bytes cuts)

-- no cut is below an earlier one
abbrev pub Rise : List ℕ → Type 0
Rise cuts = (i j : ℕ) → i ≤ j → j < length cuts → slice_index cuts i ≤ slice_index cuts j

-- these cuts part the bytes into texts in UTF-8; some bytes may follow the last cut
pub record AreCuts (bytes cuts : List ℕ) : Type 0 where
  pub some : 0 < length cuts
  pub rise : Rise cuts
  pub within : (i : ℕ) → i < length cuts → slice_index cuts i ≤ length bytes
  pub utf8 : (i : ℕ) → i + 1 < length cuts → IsUtf8 (piece bytes cuts i)

-- after cut `at` come others' cuts after `from`, or the first of them, moved
pub record AreMoved (cuts other_cuts new_cuts : List ℕ) (at from to : ℕ) : Type 0 where
  pub long : at + 1 ≤ length new_cuts
  pub bound : length new_cuts ≤ at + 1 + (to - from)
  pub before : (k : ℕ) → k ≤ at → slice_index new_cuts k ≡ slice_index cuts k
  pub after : (j : ℕ) → at + j < length new_cuts
      → slice_index new_cuts (at + j) ≡ slice_index cuts at + (slice_index other_cuts (from + j) - slice_index other_cuts from)
