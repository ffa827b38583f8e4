use Rattle.std.proofs.Common.{◌≡◌, ◌-◌, [], drop, slice_index_or}
use Rattle.vx_catalog.specs.Loading.{fall_from, first_fall}
use Rattle.vx_catalog.proofs.loader.first_fall.Given as goal

abbrev pub invariant-loop-i : goal.invariant-loop-i
invariant-loop-i l = fall_from l.order l.i (slice_index_or l.rows.rows (l.i - 1) []) (drop l.i l.rows.rows) ≡ first_fall l.order l.rows.rows
