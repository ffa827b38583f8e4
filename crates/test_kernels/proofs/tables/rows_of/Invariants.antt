use Rattle.std.proofs.Common.{◌≡◌, [], ◌∷◌}
use Rattle.vx_rows_values.specs.declared.value.ColType.TheVariants as kind
use Rattle.test_kernels.proofs.tables.rows_of.Given as goal

abbrev pub invariant-loop-part : goal.invariant-loop-part
invariant-loop-part l = l.rows.types ≡ kind.Int ∷ kind.Text ∷ []
