use Rattle.std.proofs.Common.{ℕ, ◌<◌}
use Rattle.vx_exchange_receivers.specs.Heads.{LacksAt}
use Rattle.vx_exchange_receivers.proofs.heads.first_lacking.Given as goal

abbrev pub invariant-loop-i : goal.invariant-loop-i
invariant-loop-i l = (p : ℕ) → p < l.i → LacksAt l.heads p → ⊥
