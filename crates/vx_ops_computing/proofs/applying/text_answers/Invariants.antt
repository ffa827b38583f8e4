use Rattle.std.proofs.Common.{◌≡◌, ℕ, ◌<◌, [], ◌∷◌, Some, length, get_or}
use Rattle.vx_rows_values.specs.declared.value.ColType.TheVariants.{Text}
use Rattle.vx_rows_values.specs.Values.{value_at}
use Rattle.vx_ops_computing.specs.Operands.{values_at}
use Rattle.vx_ops_computing.proofs.applying.text_answers.Given as goal

abbrev pub invariant-loop-k : goal.invariant-loop-k
invariant-loop-k g l = record {
  types : l.texts.types ≡ Text ∷ [];
  front : l.texts.front ≡ [];
  long : length l.texts.rows ≡ l.k;
  values : (j : ℕ) → j < l.k → g.A.Answers.says l.function (values_at l.operands j) ≡ Some (value_at (get_or l.texts.rows j []) 0);
}
