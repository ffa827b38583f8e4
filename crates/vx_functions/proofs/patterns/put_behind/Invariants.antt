use Rattle.std.proofs.Common.{◌≡◌, ℕ, ◌<◌, ◌≤◌, Bool, false, List, length, drop, slice_index_or}
use Rattle.vx_functions.specs.Like.{behind_one, passes}
use Rattle.vx_functions.specs.Rows.{IsRow}
use Rattle.vx_functions.proofs.patterns.put_behind.Given as goal

abbrev pub invariant-loop-place : goal.invariant-loop-place
invariant-loop-place l = record {
  long : length l.row ≡ length l.fn.row;
  done : (f : List ℕ → Bool) → IsRow f l.text l.fn.row → (i : ℕ) → i < l.place → slice_index_or l.row i false ≡ behind_one (passes l.part) f (drop i l.text);
  left : (i : ℕ) → l.place ≤ i → slice_index_or l.row i false ≡ slice_index_or l.fn.row i false;
}
