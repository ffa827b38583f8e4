-- What expressions answer of a row. A function that overflows answers none; then so does each expression that it stands in, and all operands are
-- computed, whichever function they are for.
use Rattle.std.specs.Prelude.{pos, Bool, true, false, List, [], ◌∷◌, Option, Some, None, option_and_then}
use Rattle.vx_rows_values.specs.Values.{Val, num, text, Row, value_at}
use Rattle.vx_functions.specs.Numbers.{holds}
use Rattle.vx_plan_nodes.specs.Plan.{Expression, input, value, call, Operands, no_operands, operand}

-- the values, if there are all
abbrev pub if_all : Option Val → Option (List Val) → Option (List Val)
if_all (Some v) (Some vs) = Some (v ∷ vs)
if_all (Some v) None = None
if_all None vs = None

abbrev mutual
  -- what an expression answers of the row, none where a function overflows
  pub answer : Expression → Row → Option Val
  answer (input c) row = Some (value_at row c)
  answer (value v) row = Some v
  answer (call f t es) row = option_and_then f.answer (answers_all es row)

  pub answers_all : Operands → Row → Option (List Val)
  answers_all no_operands row = Some []
  answers_all (operand e es) row = if_all (answer e row) (answers_all es row)

-- there is an answer
abbrev pub is_answered : Option Val → Bool
is_answered (Some v) = true
is_answered None = false

-- the answer; of none the number 0, which no row shows since the node overflows
abbrev pub answered : Option Val → Val
answered (Some v) = v
answered None = num (pos 0)

-- the answer is a number other than 0
abbrev pub says_yes : Option Val → Bool
says_yes (Some (num z)) = holds z
says_yes (Some (text t)) = false
says_yes None = false
