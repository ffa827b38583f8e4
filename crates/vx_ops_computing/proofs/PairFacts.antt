-- What a function of two numbers answers of two operands.
use Rattle.std.proofs.Common.{◌≡◌, ℕ, ℤ, ◌<◌, List, [], ◌∷◌, ap, ap₂, ◌∙◌}
use Rattle.std.specs.Prelude.{option_map}
use Rattle.vx_rows_values.specs.Values.{Val, num}
use Rattle.vx_functions.specs.declared.standard.StandardFunction.{StandardFunction}
use Rattle.vx_functions.specs.Standard.{of_numbers, meaning}
use Rattle.vx_ops_computing.specs.declared.operands.Operand.{Operand}
use Rattle.vx_ops_computing.specs.declared.numbers.Gathered.{Gathered}
use Rattle.vx_ops_computing.specs.Operands.{operand_at}
use Rattle.vx_ops_computing.specs.Numbers.{gathered_at, IsGathered}
use Rattle.vx_ops_computing.specs.Applied.{AreNumbersOf, PairOverflows, ArePaired}
use Rattle.vx_ops_computing.specs.Called.{CallOverflows}

module _ (f : StandardFunction) (a b : Operand) (g h : Gathered) (n : ℕ) (left : IsGathered n (operand_at a) g) (right : IsGathered n (operand_at b) h) where
  meaning-is : (k : ℕ) → k < n → meaning f (operand_at a k ∷ operand_at b k ∷ []) ≡ option_map num (of_numbers f (gathered_at g k) (gathered_at h k))
  meaning-is k l = ap₂ (λ (x y : Val). meaning f (x ∷ y ∷ [])) (left.same k l) (right.same k l)

  pub pair-numbers : (v : List ℤ) → ArePaired (of_numbers f) (gathered_at g) (gathered_at h) n v → AreNumbersOf (meaning f) (a ∷ b ∷ []) n v
  pair-numbers v p = record { long = p.long; values = λ k l. meaning-is k l ∙ ap (option_map num) (p.values k l) }

  pub pair-overflows : PairOverflows (of_numbers f) (gathered_at g) (gathered_at h) n → CallOverflows (meaning f) (a ∷ b ∷ []) n
  pair-overflows p = record { at = p.at; there = p.there; none = meaning-is p.at p.there ∙ ap (option_map num) p.none }
