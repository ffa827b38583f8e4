-- All that a source says of itself: one value for each kind of operator, from which an enum of operators has its own.
use Rattle.std.specs.Prelude.{ℕ, ◌≤◌}
use Rattle.vx_ops.specs.Ledger.{Ledger, Op, Abides}
use Rattle.vx_ops.specs.Turn.{Shape, Coming, IsWithin}
use Rattle.vx_ops.specs.declared.turn.Want.{Want}

pub record Meaning : Type 1 where
  pub stands : Ledger → Type 0
  pub op : Op
  pub types : Shape
  pub want : Want
  pub most : Coming → ℕ
  pub idle : Coming → ℕ
  pub abides : (l : Ledger) → stands l → Abides op l
  pub most_grows : (a b : Coming) → IsWithin a b → most a ≤ most b
  pub idle_grows : (a b : Coming) → IsWithin a b → idle a ≤ idle b
