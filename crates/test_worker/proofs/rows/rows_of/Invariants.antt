use Rattle.std.proofs.Common.{◌≡◌, [], ◌∷◌}
use Rattle.vx_rows_values.specs.declared.value.ColType.TheVariants.{Int}
use Rattle.test_worker.proofs.rows.rows_of.Given as goal

abbrev pub invariant-loop-run : goal.invariant-loop-run
invariant-loop-run l = l.table.types ≡ Int ∷ []
