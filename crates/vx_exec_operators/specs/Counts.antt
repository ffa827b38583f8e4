-- What an operator counts of its turns, and what its counts say of its ledger.
use Rattle.std.specs.Prelude.{ℕ, ◌≡◌, ◌+◌, ◌≤◌, [], length, Some, None}
use Rattle.vx_ops.specs.Ledger.{Ledger}
use Rattle.vx_ops.specs.Turn.{rows_in, sum_below}
use Rattle.vx_ops.specs.declared.turn.Want.{Want}
use Rattle.vx_ops.specs.declared.turn.Want.TheVariants as want
use Rattle.vx_ops.specs.declared.turn.Got.{Got}
use Rattle.vx_ops.specs.declared.turn.Got.TheVariants as got
use Rattle.vx_ops.specs.declared.turn.Polled.{Polled}
use Rattle.vx_ops.specs.declared.turn.Polled.TheVariants as polled
use Rattle.vx_exec_setup.specs.Counts.{capped}
use Rattle.vx_exec_setup.specs.declared.counts.OperatorCounts.{OperatorCounts}

-- with a morsel, if one came
abbrev pub with_morsel : OperatorCounts → Polled → OperatorCounts
with_morsel c (polled.Gave t) = record c { left = capped (c.left + length t.rows); morsels = capped (c.morsels + 1) }
with_morsel c _ = c

-- with what it got for a turn
abbrev pub with_got : OperatorCounts → Want → Got → OperatorCounts
with_got c want.Morsel (got.Input p) = with_morsel c p
with_got c want.Left (got.Input p) = record c { left = capped (c.left + rows_in p) }
with_got c want.Right (got.Input p) = record c { right = capped (c.right + rows_in p) }
with_got c (want.Packet i) (got.Packet (Some p)) = record c { packets = capped (c.packets + 1) }
with_got c (want.Packet i) (got.Packet None) = record c { waits = capped (c.waits + 1) }
with_got c _ _ = c

-- with what it gave for a turn
abbrev pub with_given : OperatorCounts → Polled → OperatorCounts
with_given c p = record c { gave = capped (c.gave + rows_in p) }

-- the counts are those of the ledger: the rows that came from the left and from the right, the rows that were returned, and the packets of all
-- producers below any place from which on none sent one
pub record AreCounts (c : OperatorCounts) (l : Ledger) : Type 0 where
  pub left : c.left ≡ capped (length l.left.rows)
  pub right : c.right ≡ capped (length l.right.rows)
  pub gave : c.gave ≡ capped (length l.gave.rows)
  pub packets : (n : ℕ) → ((i : ℕ) → n ≤ i → l.came i ≡ []) → c.packets ≡ capped (sum_below n (λ i. length (l.came i)))
