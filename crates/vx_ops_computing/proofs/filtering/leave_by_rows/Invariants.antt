use Rattle.std.proofs.Common.{◌≡◌, ℕ, ◌<◌, ◌≤◌, ◌&&◌, false, Some, length, get_or}
use Rattle.vx_plan_nodes.specs.Expressions.{says_yes}
use Rattle.vx_ops_computing.specs.Operands.{operand_at}
use Rattle.vx_ops_computing.proofs.filtering.leave_by_rows.Given as goal

abbrev pub invariant-loop-k : goal.invariant-loop-k
invariant-loop-k l = record {
  long : length l.mask ≡ length l.initial.mask;
  done : (j : ℕ) → j < l.k → get_or l.mask j false ≡ (get_or l.initial.mask j false && says_yes (Some (operand_at l.operand j)));
  rest : (j : ℕ) → l.k ≤ j → get_or l.mask j false ≡ get_or l.initial.mask j false;
}
