use Rattle.std.proofs.Common.{◌≡◌, [], ◌∷◌}
use Rattle.vx_rows_values.specs.declared.value.ColType.TheVariants.{Int}
use Rattle.test_worker.proofs.rows.push_run.Given as goal

abbrev pub invariant-loop-number : goal.invariant-loop-number
invariant-loop-number l = l.rows.types ≡ Int ∷ []
