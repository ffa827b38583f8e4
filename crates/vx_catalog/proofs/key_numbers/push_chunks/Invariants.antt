use Rattle.std.proofs.Common.{◌≡◌, ◌++◌, ◌∷◌, [], take, map}
use Rattle.vx_rows_values.specs.Values.{pick}
use Rattle.vx_rows_views.specs.Chunks.{all_rows}
use Rattle.vx_catalog.specs.KeyNumbers.{number_rows}
use Rattle.vx_catalog.proofs.key_numbers.push_chunks.Given as goal

abbrev pub invariant-loop-i : goal.invariant-loop-i
invariant-loop-i l = number_rows l.found.items ≡ number_rows l.initial.found.items ++ map (pick (l.column ∷ [])) (all_rows (take l.i l.chunks))
