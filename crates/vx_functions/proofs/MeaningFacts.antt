-- Functions of too many values.
use Rattle.std.proofs.Common.{◌≡◌, ◌≤◌, List, [], ◌∷◌, map, length, None, refl, arith}
use Rattle.vx_rows_values.specs.declared.value.Cell.{Cell}
use Rattle.vx_rows_values.specs.ValueView.{cell_val}
use Rattle.vx_functions.specs.declared.standard.StandardFunction.{StandardFunction}
use Rattle.vx_functions.specs.Standard.{meaning}

pub too-many : (f : StandardFunction) (cells : List Cell) → 4 ≤ length cells → None ≡ meaning f (map cell_val cells)
too-many f [] l = absurd (omega (arith, l))
too-many f (a ∷ []) l = absurd (omega (arith, l))
too-many f (a ∷ b ∷ []) l = absurd (omega (arith, l))
too-many f (a ∷ b ∷ c ∷ []) l = absurd (omega (arith, l))
too-many f (a ∷ b ∷ c ∷ d ∷ cells) l = refl
