use Rattle.std.proofs.Common.{◌≡◌, ℕ, ◌<◌, ◌≤◌, ◌&&◌, false, pos, length, get_or}
use Rattle.vx_functions.specs.Numbers.{holds}
use Rattle.vx_ops_computing.proofs.filtering.leave_numbers.Given as goal

abbrev pub invariant-loop-k : goal.invariant-loop-k
invariant-loop-k l = record {
  long : length l.mask ≡ length l.initial.mask;
  done : (j : ℕ) → j < l.k → get_or l.mask j false ≡ (get_or l.initial.mask j false && holds (get_or l.numbers j (pos 0)));
  rest : (j : ℕ) → l.k ≤ j → get_or l.mask j false ≡ get_or l.initial.mask j false;
}
