-- An operator stands as its kind does, and its counts are those of what it received and returned.
use Rattle.std.specs.Prelude.{ℕ, ◌≤◌}
use Rattle.vx_plan_nodes.specs.declared.functions.PlanFunctions.{Ghosts}
use Rattle.vx_ops.specs.Ledger.{Ledger, Op, Abides}
use Rattle.vx_ops.specs.Turn.{Shape, Coming, IsWithin}
use Rattle.vx_ops.specs.declared.turn.Want.{Want}
use Rattle.vx_exec_operators.specs.Counts.{AreCounts}
use Rattle.vx_exec_operators.specs.Kind.{KindStands, kind_op, kind_types, kind_want, kind_most, kind_idle, kind_abides, kind-most-grows, kind-idle-grows}
use Rattle.vx_exec_setup.specs.declared.counts.OperatorCounts.{OperatorCounts}
use Rattle.vx_exec_operators.specs.declared.operator.Operator.{Operator}

pub record OperatorStands {F : Type 0} (given : Ghosts F) (s : Operator F given) (l : Ledger) : Type 0 where
  pub kind : KindStands given s.kind l
  pub counts : AreCounts s.counts l

abbrev pub operator_op : {F : Type 0} (given : Ghosts F) → Operator F given → Op
operator_op given s = kind_op given s.kind

abbrev pub operator_types : {F : Type 0} (given : Ghosts F) → Operator F given → Shape
operator_types given s = kind_types given s.kind

abbrev pub operator_want : {F : Type 0} (given : Ghosts F) → Operator F given → Want
operator_want given s = kind_want given s.kind

-- what it has still to do is what its kind has
abbrev pub operator_most : {F : Type 0} (given : Ghosts F) → Operator F given → Coming → ℕ
operator_most given s c = kind_most given s.kind c

abbrev pub operator_idle : {F : Type 0} (given : Ghosts F) → Operator F given → Coming → ℕ
operator_idle given s c = kind_idle given s.kind c

-- the number of its node
abbrev pub node_in : {F : Type 0} {given : Ghosts F} → Operator F given → ℕ
node_in s = s.node

-- what it counted
abbrev pub counts_in : {F : Type 0} {given : Ghosts F} → Operator F given → OperatorCounts
counts_in s = s.counts

-- how many rows it counted that it gave
abbrev pub rows_given : {F : Type 0} (given : Ghosts F) → Operator F given → ℕ
rows_given given s = s.counts.gave

-- what is known of it
pub operator_abides : {F : Type 0} {given : Ghosts F} (s : Operator F given) (l : Ledger) → OperatorStands given s l → Abides (operator_op given s) l
operator_abides s l h = kind_abides s.kind l h.kind

pub operator-most-grows : {F : Type 0} {given : Ghosts F} (s : Operator F given) (a b : Coming) → IsWithin a b → operator_most given s a ≤ operator_most given s b
operator-most-grows s a b h = kind-most-grows s.kind a b h

pub operator-idle-grows : {F : Type 0} {given : Ghosts F} (s : Operator F given) (a b : Coming) → IsWithin a b → operator_idle given s a ≤ operator_idle given s b
operator-idle-grows s a b h = kind-idle-grows s.kind a b h
