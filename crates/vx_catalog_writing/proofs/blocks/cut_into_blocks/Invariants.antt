use Rattle.std.proofs.Common.{◌≡◌, ◌≤◌, ◌-◌, length, take}
use Rattle.vx_catalog_writing.specs.Blocks.{rows_of_blocks}
use Rattle.vx_catalog_writing.proofs.blocks.cut_into_blocks.Given as goal

abbrev pub invariant-cut : goal.invariant-cut
invariant-cut l = record {
  there : l.from ≤ length l.rows.rows;
  rows : rows_of_blocks l.blocks.items ≡ take l.from l.rows.rows;
}

abbrev pub decreases-cut : goal.decreases-cut
decreases-cut l = length l.rows.rows - l.from
