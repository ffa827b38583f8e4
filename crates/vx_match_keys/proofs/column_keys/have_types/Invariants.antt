use Rattle.std.proofs.Common.{◌≡◌, map, take}
use Rattle.vx_rows_values.specs.Types.{type_at}
use Rattle.vx_match_keys.proofs.column_keys.have_types.Given as goal

abbrev pub invariant-loop-j : goal.invariant-loop-j
invariant-loop-j l = map (type_at l.own) (take l.j l.columns) ≡ take l.j l.types
