use Rattle.std.proofs.Common.{◌≡◌, map, take}
use Rattle.vx_rows.proofs.table.Table.sorted_positions.Given as goal

abbrev pub invariant-loop-place : goal.invariant-loop-place
invariant-loop-place l = l.positions.items ≡ map (λ p. p.position) (take l.place-index l.place-items)
