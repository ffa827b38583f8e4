use Rattle.std.proofs.Common.{◌≡◌, take, map}
use Rattle.vx_rows.specs.Columns.{column_type}
use Rattle.vx_rows.proofs.writes.empty_columns.Given as goal

abbrev pub invariant-loop-kind : goal.invariant-loop-kind
invariant-loop-kind l = map column_type l.columns.items ≡ take l.kind-index l.types
