-- Worked plans with functions: what is accepted of them, what is refused, and what they mean. Each fact holds by computing.
use Rattle.std.specs.Prelude.{◌≡◌, ℕ, true, false, negsuc, codes, List, [], ◌∷◌, Some, None}
use Rattle.vx_rows_values.specs.declared.order.OrderEntry.{OrderEntry}
use Rattle.vx_rows_values.specs.declared.value.ColType.TheVariants.{Int}
use Rattle.vx_rows_values.specs.Order.{rising}
use Rattle.vx_rows_values.specs.Values.{Val, num, Name}
use Rattle.vx_plan_nodes.specs.Plan.{one, any, below, constant, Expression, input, value, call, no_operands, operand, Filter, comparing, computing, copy_of, made_by, Unary, select, project, gather, Plan, unary, exchange}
use Rattle.vx_plan_nodes.specs.Outline.{function_of}
use Rattle.vx_plan_nodes.specs.Serial.{rows, overflow, serial}
use Rattle.vx_plan_nodes.specs.Erase.{erase}
use Rattle.vx_plan_nodes.specs.Typed.{typed}
use Rattle.vx_plan_nodes.specs.Known.{first_unknown}
use Rattle.vx_check_rules.specs.Refusal.{order_not_shown, key_not_shown, refusal}
use Rattle.vx_exec_laws.specs.WorkedPlans.{t_and_d, claimed, part_only, first_key, by_first, shared_t, worked_scope, one_row, a, n, minus_2, db, empty_db}

-- the answer, a number, of this function of two values
abbrev pub of_two : Name → Expression → Expression → Expression
of_two name x y = call (function_of name) Int (operand x (operand y no_operands))

-- t's v and this number together
abbrev pub v_and : Val → Expression
v_and x = of_two (codes "add") (input 2) (value x)

-- a number that overflows with each of t's that is not below 1
abbrev pub most : Val
most = n 9223372036854775807

-- the second of three values where the first is a number other than 0, else the third
abbrev pub choice : Expression → Expression → Expression → Expression
choice x y z = call (function_of (codes "if")) Int (operand x (operand y (operand z no_operands)))

-- a merging gather over an operator over t, which both claim this order and these keys
abbrev pub over_t : Unary → List OrderEntry → List (List ℕ) → Plan
over_t op order keys = exchange 0 (claimed one order keys) gather order (unary 1 (claimed any order keys) op (shared_t 2 (claimed any by_first first_key)))

-- t's id, a number, and the number 7
abbrev pub with_number : Expression → Unary
with_number x = project (copy_of 0 ∷ made_by x ∷ made_by (value (n 7)) ∷ [])

-- v is below -2, which no row's is
abbrev pub v_below : Filter
v_below = comparing (record { left = 2; test = below; right = constant minus_2 })

pub record WorkedFunctions : Type 0 where
  pub accepted : refusal t_and_d true (over_t (with_number (v_and (n 1))) by_first first_key) ≡ None
  pub typed_project : typed worked_scope (over_t (with_number (v_and (n 1))) by_first first_key) ≡ true
  -- columns that are computed are neither in order nor a key, and a key stays one beside them
  pub order_computed : refusal t_and_d false (over_t (with_number (v_and (n 1))) (rising (1 ∷ [])) []) ≡ Some (1, order_not_shown)
  pub key_computed : refusal t_and_d false (over_t (with_number (v_and (n 1))) [] ((1 ∷ []) ∷ [])) ≡ Some (1, key_not_shown)
  pub key_and_more : refusal t_and_d false (over_t (with_number (v_and (n 1))) [] ((1 ∷ 0 ∷ []) ∷ [])) ≡ None
  -- a condition that is computed is a number
  pub typed_select : typed worked_scope (over_t (select (computing (input 2) ∷ [])) by_first first_key) ≡ true
  pub untyped_select : typed worked_scope (over_t (select (computing (input 1) ∷ [])) by_first first_key) ≡ false
  -- functions that the program has, of these types, and others
  pub known : first_unknown t_and_d (over_t (with_number (v_and (n 1))) by_first first_key) ≡ None
  pub of_a_text : first_unknown t_and_d (over_t (with_number (of_two (codes "add") (input 1) (input 2))) by_first first_key) ≡ Some 1
  pub unknown : first_unknown t_and_d (over_t (with_number (of_two (codes "gcd") (input 0) (input 2))) by_first first_key) ≡ Some 1
  pub typed_unknown : typed worked_scope (over_t (with_number (of_two (codes "gcd") (input 0) (input 2))) by_first first_key) ≡ true
  -- what they mean
  pub added : serial db (over_t (with_number (v_and (n 1))) by_first first_key)
      ≡ rows (one_row (n 0) (n 6) (n 7) ∷ one_row (n 1) (n 8) (n 7) ∷ one_row (n 2) (num (negsuc 0)) (n 7) ∷ one_row (n 3) (n 8) (n 7) ∷ [])
  pub doubled : serial db (over_t (project (made_by (of_two (codes "mul") (v_and (n 1)) (value (n 2))) ∷ [])) [] [])
      ≡ rows ((n 12 ∷ []) ∷ (n 16 ∷ []) ∷ (num (negsuc 1) ∷ []) ∷ (n 16 ∷ []) ∷ [])
  pub chosen : serial db (over_t (select (computing (v_and (num (negsuc 6))) ∷ [])) by_first first_key) ≡ rows (one_row (n 0) a (n 5) ∷ one_row (n 2) a minus_2 ∷ [])
  -- an overflow in one row is the node's, whatever a condition or a choice beside it says
  pub overflows : serial db (over_t (with_number (v_and most)) by_first first_key) ≡ overflow 1
  pub overflows_erased : serial db (erase (over_t (with_number (v_and most)) by_first first_key)) ≡ overflow 0
  pub not_chosen : serial db (over_t (with_number (choice (value (n 0)) (v_and most) (value (n 1)))) by_first first_key) ≡ overflow 1
  pub none_chosen : serial db (over_t (select (v_below ∷ [])) by_first first_key) ≡ rows []
  pub not_guarded : serial db (over_t (select (v_below ∷ computing (v_and most) ∷ [])) by_first first_key) ≡ overflow 1
  pub of_no_rows : serial empty_db (over_t (with_number (v_and most)) by_first first_key) ≡ rows []
