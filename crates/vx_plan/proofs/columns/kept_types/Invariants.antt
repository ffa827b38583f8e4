use Rattle.std.proofs.Common.{◌≡◌, map, take}
use Rattle.vx_rows_values.specs.Types.{type_at}
use Rattle.vx_plan.proofs.columns.kept_types.Given as goal

abbrev pub invariant-loop-k : goal.invariant-loop-k
invariant-loop-k l = l.found.items ≡ map (λ k. type_at l.types k.column) (take l.k-index l.kept)
