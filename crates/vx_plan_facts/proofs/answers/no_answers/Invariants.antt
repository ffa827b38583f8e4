use Rattle.std.proofs.Common.{◌≡◌, ℕ, length, slice_get, Some, None}
use Rattle.vx_plan_facts.specs.declared.answers.Answers as rust_answers
use Rattle.vx_plan_facts.proofs.answers.no_answers.Given as goal

abbrev pub invariant-loop : goal.invariant-loop
invariant-loop l = record {
  count : length l.answers.items ≡ l.counter;
  none : (n : ℕ) (a : rust_answers.Answers) → slice_get l.answers.items n ≡ Some a → (i : ℕ) → slice_get a.kept.items i ≡ None;
}
