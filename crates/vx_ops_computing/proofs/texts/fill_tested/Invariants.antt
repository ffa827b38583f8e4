use Rattle.std.proofs.Common.{◌≡◌, ℕ, ◌<◌, [], pos, Some, length, get_or}
use Rattle.std.specs.Prelude.{slice_index}
use Rattle.vx_rows_values.specs.Values.{num, text}
use Rattle.vx_rows_views.specs.Seen.{seen_positions}
use Rattle.vx_ops_computing.specs.Tested.{test_answer}
use Rattle.vx_ops_computing.proofs.texts.fill_tested.Given as goal

abbrev pub invariant-loop-k : goal.invariant-loop-k
invariant-loop-k g l = record {
  long : length l.numbers ≡ length l.initial.numbers;
  done : (j : ℕ) → j < l.k → test_answer (g.T.TextTest.says l.test) (text (get_or l.texts (slice_index (seen_positions l.at) j) [])) ≡ Some (num (get_or l.numbers j (pos 0)));
}
