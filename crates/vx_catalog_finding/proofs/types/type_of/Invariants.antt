use Rattle.std.proofs.Common.{◌≡◌, true, take}
use Rattle.std.specs.List.{list_all}
use Rattle.vx_rows_values.specs.Values.{Row, value_at}
use Rattle.vx_catalog_finding.specs.Found.{is_plain_number}
use Rattle.vx_catalog_finding.proofs.types.type_of.Given as goal

abbrev pub invariant-loop-i : goal.invariant-loop-i
invariant-loop-i l = list_all (λ (row : Row). is_plain_number (value_at row l.column)) (take l.i l.rows.rows) ≡ true
