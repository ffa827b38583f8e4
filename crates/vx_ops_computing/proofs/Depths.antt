-- How deep expressions are: operands are less deep than their call.
use Rattle.std.proofs.Common.{◌≡◌, ℕ, zero, suc, ◌+◌, ◌<◌, ◌≤◌, arith, List, [], ◌∷◌, length, get_or, ap, String, Global, Vec}
use Rattle.vx_rows_values.specs.declared.value.ColType.{ColType}
use Rattle.vx_plan_nodes.specs.declared.typed.Expression.{Expression, Call}
use Rattle.vx_plan_nodes.specs.Plan as plan
use Rattle.vx_plan_nodes.specs.Outline.{expression_of}
use Rattle.vx_plan_nodes.proofs.ExpressionFacts.{operands_in, call-is}

abbrev mutual
  pub depth : plan.Expression → ℕ
  depth (plan.input c) = 0
  depth (plan.value v) = 0
  depth (plan.call f t es) = suc (depth_all es)

  pub depth_all : plan.Operands → ℕ
  depth_all plan.no_operands = 0
  depth_all (plan.operand e es) = depth e + depth_all es

item-below : (es : List Expression) (i : ℕ) (e : Expression) → i < length es → e ≡ get_or es i e → depth (expression_of e) ≤ depth_all (operands_in es)
item-below [] i e l is = absurd (omega arith)
item-below (d ∷ es) zero e l is =
    let same : depth (expression_of e) ≡ depth (expression_of d) = ap (λ x. depth (expression_of x)) is in
    omega (arith, same)
item-below (d ∷ es) (suc i) e l is =
    let h : depth (expression_of e) ≤ depth_all (operands_in es) = item-below es i e (omega arith) is in
    omega (arith, h)

pub call-falls : (name : String Global) (t : ColType) (es : Vec Expression Global) (i : ℕ) (e : Expression) → i < length es.items → e ≡ get_or es.items i e
    → depth (expression_of e) < depth (expression_of (Call name t es))
call-falls name t es i e l is =
    let h : depth (expression_of e) ≤ depth_all (operands_in es.items) = item-below es.items i e l is in
    let k : depth (expression_of (Call name t es)) ≡ suc (depth_all (operands_in es.items)) = ap depth (call-is name t es) in
    omega (arith, h, k)
