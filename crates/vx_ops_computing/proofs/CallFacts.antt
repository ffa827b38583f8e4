-- What a function that a plan names answers, also where it is a standard one.
use Rattle.std.proofs.Common.{◌≡◌, ℕ, true, List, map, Option, Some, None, refl, sym, ap, ◌∙◌}
use Rattle.std.specs.Prelude.{All}
use Rattle.vx_rows_values.specs.declared.value.ColType.{ColType}
use Rattle.vx_rows_values.specs.declared.value.ColType.TheVariants.{Int, Text}
use Rattle.vx_rows_values.specs.Values.{Val, Name}
use Rattle.vx_plan_nodes.specs.Functions.{Functions, AnswersAreTyped}
use Rattle.vx_plan_nodes.specs.Known.{is_type}
use Rattle.vx_plan_nodes.specs.Typed.{type_eq}
use Rattle.vx_ops_computing.specs.declared.operands.Operand.{Operand}
use Rattle.vx_ops_computing.specs.Operands.{operand_type, IsFor, values_at}
use Rattle.vx_ops_computing.specs.Applied.{AnswersOf}
use Rattle.vx_ops_computing.specs.Called.{IsCalled, CallOverflows}
use Rattle.vx_ops_computing.proofs.OperandFacts.{values-typed}

same-type : (t u : ColType) → type_eq t u ≡ true → t ≡ u
same-type Int Int h = refl
same-type Int Text h = cc
same-type Text Int h = cc
same-type Text Text h = refl

type-is : (t : ColType) (o : Option ColType) → is_type t o ≡ true → o ≡ Some t
type-is t (Some u) h = ap Some (sym (same-type t u h))
type-is t None h = cc

-- a function that is known answers values of the type that the plan says
pub answers-typed : (given : Functions) → AnswersAreTyped given → (name : Name) (t : ColType) (os : List Operand) (n : ℕ) → All (IsFor n) os
    → is_type t ((given name).signature (map operand_type os)) ≡ true → AnswersOf (given name).answer os n t
answers-typed given law name t os n whole known k v l is =
    law name (values_at os k) v t
    (ap (given name).signature (values-typed n k os whole l) ∙ type-is t ((given name).signature (map operand_type os)) known)
    is

-- what holds of its answers holds of those of a function that answers the same
module _ (says also : List Val → Option Val) (same : (values : List Val) → says values ≡ also values) (os : List Operand) (n : ℕ) where
  pub answers-as : (t : ColType) → AnswersOf says os n t → AnswersOf also os n t
  answers-as t h k v l is = h k v l (same (values_at os k) ∙ is)

  pub called-as : (t : ColType) (o : Operand) → IsCalled also os n t o → IsCalled says os n t o
  called-as t o h = record { whole = h.whole; kind = h.kind; values = λ k l. same (values_at os k) ∙ h.values k l }

  pub overflows-as : CallOverflows also os n → CallOverflows says os n
  overflows-as h = record { at = h.at; there = h.there; none = same (values_at os h.at) ∙ h.none }
