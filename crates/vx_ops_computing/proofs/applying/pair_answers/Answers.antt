use Rattle.std.proofs.Common.{◌≡◌, List, [], ◌∷◌, Option, length, get_or, subst, sym, ap₂, arith}
use Rattle.std.specs.Prelude.{IfSome}
use Rattle.vx_functions.specs.Standard.{of_numbers, meaning}
use Rattle.vx_ops_computing.specs.declared.numbers.Gathered.{Gathered}
use Rattle.vx_ops_computing.specs.declared.operands.Operand.{Operand}
use Rattle.vx_ops_computing.specs.Applied.{PairOverflows}
use Rattle.vx_ops_computing.specs.Called.{CallOverflows}
use Rattle.vx_ops_computing.specs.Numbers.{gathered_at, IsGathered}
use Rattle.vx_ops_computing.specs.Operands.{operand_at}
use Rattle.vx_ops_computing.proofs.Blaming.{err-blames}
use Rattle.vx_ops_computing.proofs.PairFacts.{pair-overflows}
use Rattle.vx_ops_computing.proofs.applying.pair_answers.Goals as goal

two-operands : (os : List Operand) (a b : Operand) → length os ≡ 2 → a ≡ get_or os 0 a → b ≡ get_or os 1 b → os ≡ a ∷ b ∷ []
two-operands [] a b n x y = absurd (omega (arith, n))
two-operands (o ∷ []) a b n x y = absurd (omega (arith, n))
two-operands (o ∷ p ∷ []) a b n x y = ap₂ (λ (v w : Operand). v ∷ w ∷ []) (sym x) (sym y)
two-operands (o ∷ p ∷ q ∷ os) a b n x y = absurd (omega (arith, n))

pub returns-clause-fault : goal.returns-clause-fault
returns-clause-fault c =
    let f = c.args.function in
    let os = c.args.operands.now in
    let n = c.args.count in
    let a = c.first-item.result in
    let b = c.second-item.result in
    let g = c.in-Some.left in
    let h = c.in-Some-2.right in
    let two : length os ≡ 2 = omega (arith, c.in-len2.len_at_least, c.in-len2.len_below) in
    let is : os ≡ a ∷ b ∷ [] = two-operands os a b two c.first-item.is c.second-item.is in
    let P : Option Gathered → Type 0 = λ o. IfSome o (IsGathered n (operand_at a)) in
    let left : IsGathered n (operand_at a) g = subst P c.in-Some.is c.in_ok-left.ensures in
    let Q : Option Gathered → Type 0 = λ o. IfSome o (IsGathered n (operand_at b)) in
    let right : IsGathered n (operand_at b) h = subst Q c.in-Some-2.is c.in_ok-right.ensures in
    let R : List Operand → Type 0 = λ vs. CallOverflows (meaning f) vs n in
    err-blames (PairOverflows (of_numbers f) (gathered_at g) (gathered_at h) n) (CallOverflows (meaning f) os n) c.paired.result
    (λ p. subst R (sym is) (pair-overflows f a b g h n left right p)) c.paired.ensures.fault
