-- What tests of texts say of what a function answers.
use Rattle.std.proofs.Common.{◌≡◌, ℕ, ℤ, ◌<◌, Bool, List, [], ◌∷◌, Some, ap, ◌∙◌}
use Rattle.vx_rows_values.specs.Values.{Val, num, text}
use Rattle.vx_functions.specs.declared.standard.StandardFunction.{StandardFunction}
use Rattle.vx_functions.specs.Numbers.{truth}
use Rattle.vx_functions.specs.Standard.{of_texts, meaning}
use Rattle.vx_ops_computing.specs.declared.operands.Operand.{Operand}
use Rattle.vx_ops_computing.specs.Applied.{AreNumbersOf}
use Rattle.vx_ops_computing.specs.Operands.{operand_at}
use Rattle.vx_ops_computing.specs.Tested.{test_answer, AreTested}

-- what a test says of the same values
pub tested-as : (passes : List ℕ → Bool) (values also : ℕ → Val) (n : ℕ) (v : List ℤ) → ((k : ℕ) → k < n → values k ≡ also k) → AreTested passes also n v → AreTested passes values n v
tested-as passes values also n v same h = record { long = h.long; each = λ k l. ap (test_answer passes) (same k l) ∙ h.each k l }

module _ (f : StandardFunction) (passes : List ℕ → Bool) (t : List ℕ) (says : (s : List ℕ) → of_texts f s t ≡ Some (num (truth (passes s)))) where
  answer-is : (v w : Val) → test_answer passes v ≡ Some w → meaning f (v ∷ text t ∷ []) ≡ Some w
  answer-is (text s) w e = says s ∙ e
  answer-is (num z) w e = cc

  -- a function that answers what a test of its first text says
  pub tested-numbers : (a b : Operand) (n : ℕ) (v : List ℤ) → ((k : ℕ) → operand_at b k ≡ text t) → AreTested passes (operand_at a) n v → AreNumbersOf (meaning f) (a ∷ b ∷ []) n v
  tested-numbers a b n v is h = record {
    long = h.long;
    values = λ k l. ap (λ w. meaning f (operand_at a k ∷ w ∷ [])) (is k) ∙ answer-is (operand_at a k) _ (h.each k l);
  }
