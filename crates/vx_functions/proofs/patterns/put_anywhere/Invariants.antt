use Rattle.std.proofs.Common.{◌≡◌, ℕ, ◌+◌, ◌<◌, ◌≤◌, Bool, false, List, length, drop, slice_index_or}
use Rattle.vx_functions.specs.Like.{anywhere}
use Rattle.vx_functions.specs.Rows.{IsRow}
use Rattle.vx_functions.proofs.patterns.put_anywhere.Given as goal

abbrev pub invariant-loop-back : goal.invariant-loop-back
invariant-loop-back l = record {
  long : length l.row ≡ length l.fn.row;
  done : (f : List ℕ → Bool) (cs : List ℕ) → IsRow f cs l.fn.row → (i : ℕ) → i ≤ length cs → length cs ≤ i + l.back → slice_index_or l.row i false ≡ anywhere f (drop i cs);
  left : (i : ℕ) → i + l.back < l.last → slice_index_or l.row i false ≡ slice_index_or l.fn.row i false;
}
