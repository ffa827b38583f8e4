-- What an operator to which nothing came has to do at most, by what it does and by what may come.
use Rattle.std.specs.Prelude.{ℕ, ◌≤◌, ◌+◌, ◌*◌}
use Rattle.vx_plan_nodes.specs.Plan.{union, join, semi_join}
use Rattle.vx_ops.specs.Ledger.{Op, scan_op, one_op, two_op, receive}
use Rattle.vx_ops.specs.Turn.{Coming, sum_below}
use Rattle.vx_ops.specs.Meaning.{Meaning}

-- the most rows that it may return: no more than its input has; of a union those of both inputs, of a join each left row with each right one, of a semi or
-- an anti join those of its left input;
-- of the consumer end of an exchange those of all its producers
abbrev pub op_most : Op → Coming → ℕ
op_most scan_op c = c.left
op_most (one_op n op) c = c.left
op_most (two_op n union) c = c.left + c.right
op_most (two_op n (join method on)) c = c.left * c.right
op_most (two_op n (semi_join matched on conditions)) c = c.left
op_most (receive port) c = sum_below port.producers c.packets

-- the most turns of its own in which it may return nothing: over two inputs one for each of their rows and for each of their ends
abbrev pub op_idle : Op → Coming → ℕ
op_idle scan_op c = 0
op_idle (one_op n op) c = 0
op_idle (two_op n op) c = c.left + c.right + 2
op_idle (receive port) c = 0

-- an operator that does this has no more to do than that
pub record StartsWithin (op : Op) (most idle : Coming → ℕ) : Type 0 where
  pub rows : (c : Coming) → most c ≤ op_most op c
  pub turns : (c : Coming) → idle c ≤ op_idle op c

-- so it is with an operator that says this of itself
abbrev pub Starts : Meaning → Type 0
Starts m = StartsWithin m.op m.most m.idle
