use Rattle.std.proofs.Common.{◌≡◌, [], ◌∷◌}
use Rattle.vx_rows_values.specs.declared.value.ColType.TheVariants.{Int}
use Rattle.test_rings.proofs.packets.numbers.Given as goal

abbrev pub invariant-loop-n : goal.invariant-loop-n
invariant-loop-n l = l.table.types ≡ Int ∷ []
