use Rattle.std.proofs.Common.{◌≡◌}
use Rattle.vx_rows_values.specs.Values.{row_eq}
use Rattle.vx_rows.proofs.RowFacts.{rest}
use Rattle.vx_rows.proofs.row.RowPartialEq.eq.Given as goal

-- what is left decides
abbrev pub invariant-loop-i : goal.invariant-loop-i
invariant-loop-i l = row_eq l.self l.other ≡ row_eq (rest l.self-inside.values.items l.i) (rest l.other-inside.values.items l.i)
