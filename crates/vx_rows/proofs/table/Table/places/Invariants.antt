use Rattle.std.proofs.Common.{◌≡◌}
use Rattle.vx_rows.specs.Lists.{each_below}
use Rattle.vx_rows.specs.Sorting.{place_of}
use Rattle.vx_rows.proofs.table.Table.places.Given as goal

abbrev pub invariant-loop-i : goal.invariant-loop-i
invariant-loop-i l = l.places.items ≡ each_below l.i (place_of l.order l.self.rows)
