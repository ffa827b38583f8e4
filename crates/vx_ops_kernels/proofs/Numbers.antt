-- A condition on a column of numbers, as a test of its numbers.
use Rattle.std.proofs.Common.{◌≡◌, ℕ, ℤ, ◌<◌, ◌&&◌, Bool, refl, subst, List, [], ◌∷◌, length, sym, ap, ◌∙◌}
use Rattle.std.specs.List.{AllByRecursion}
use Rattle.vx_rows_values.specs.declared.value.ColType.{ColType}
use Rattle.vx_rows_values.specs.declared.value.ColType.TheVariants.{Int}
use Rattle.vx_rows_values.specs.declared.test.Test.{Test}
use Rattle.vx_rows_values.specs.Types.{type_of, type_at, Fits}
use Rattle.vx_rows_values.specs.Values.{Val, num, text, Row, val_cmp, value_at}
use Rattle.vx_rows_values.specs.ValueView.{test_of}
use Rattle.vx_plan_nodes.specs.Plan.{Side, constant}
use Rattle.vx_plan_nodes.specs.Serial.{side, answers}
use Rattle.vx_plan_nodes.specs.Outline.{side_of}
use Rattle.vx_plan_nodes.specs.declared.typed.Condition.{Condition}
use Rattle.vx_rows_views.specs.Selected.{of_number}
use Rattle.vx_rows_views.proofs.Fitting.{value-type}
use Rattle.vx_ops_kernels.specs.Holds.{holds_of}
use Rattle.vx_ops_kernels.specs.Interval.{says}

module _ (c : Condition) (t : Test) (k : ℤ) (tests : t ≡ c.test) (right : side_of c.right ≡ constant (num k)) where
  of-value : (v : Val) (r : Row) → type_of v ≡ Int → of_number (says t k) v ≡ answers (test_of c.test) (val_cmp v (side (side_of c.right) r))
  of-value (num z) r e =
      ap (λ (u : Test). answers (test_of u) (val_cmp (num z) (num k))) tests ∙ ap (λ (s : Side). answers (test_of c.test) (val_cmp (num z) (side s r))) (sym right)
  of-value (text s) r e = cc

  pub number-holds : (types : List ColType) (rows : List Row) → c.left < length types → type_at types c.left ≡ Int → AllByRecursion (Fits types) rows
      → AllByRecursion (λ r. of_number (says t k) (value_at r c.left) ≡ holds_of c r) rows
  number-holds types [] l e fit = tt
  number-holds types (r ∷ rs) l e fit =
      (of-value (value_at r c.left) r (value-type types r c.left fit.0 l ∙ e), number-holds types rs l e fit.1)

-- ---- two tests of one number

of-both : (f g : ℤ → Bool) (v : Val) → of_number (λ z. f z && g z) v ≡ (of_number f v && of_number g v)
of-both f g (num z) = refl
of-both f g (text s) = refl

-- tests of the numbers of a column that say what two conditions do say together what both do
pub both-hold : (f g : ℤ → Bool) (p q : Row → Bool) (column : ℕ) (rows : List Row)
    → AllByRecursion (λ r. of_number f (value_at r column) ≡ p r) rows → AllByRecursion (λ r. of_number g (value_at r column) ≡ q r) rows
    → AllByRecursion (λ r. of_number (λ z. f z && g z) (value_at r column) ≡ (p r && q r)) rows
both-hold f g p q column [] first second = tt
both-hold f g p q column (r ∷ rs) first second = (
  of-both f g (value_at r column) ∙ (ap (λ b. b && of_number g (value_at r column)) first.0 ∙ ap (λ b. p r && b) second.0),
  both-hold f g p q column rs first.1 second.1,
)

-- the tests of two conditions that compare one column with constants, on rows that fit their types
pub conditions-hold : (first second : Condition) (t u : Test) (k m : ℤ) (types : List ColType) (rows : List Row)
    → t ≡ first.test → side_of first.right ≡ constant (num k) → u ≡ second.test → side_of second.right ≡ constant (num m)
    → second.left ≡ first.left → first.left < length types → type_at types first.left ≡ Int → AllByRecursion (Fits types) rows
    → AllByRecursion (λ r. of_number (λ z. says t k z && says u m z) (value_at r first.left) ≡ (holds_of first r && holds_of second r)) rows
conditions-hold first second t u k m types rows one at_k other at_m same near kind fit =
    both-hold (says t k) (says u m) (holds_of first) (holds_of second) first.left rows (number-holds first t k one at_k types rows near kind fit)
    (subst (λ (column : ℕ). AllByRecursion (λ r. of_number (says u m) (value_at r column) ≡ holds_of second r) rows) same
    (number-holds second u m other at_m types rows (subst (λ (column : ℕ). column < length types) (sym same) near) (subst (λ (column : ℕ). type_at types column ≡ Int) (sym same) kind) fit))
