use Rattle.std.proofs.Common.{◌≡◌, ◌*◌, ◌-◌, ◌≤◌, map, flat_map, drop, length}
use Rattle.std.specs.List.{range_with_len}
use Rattle.vx_catalog.specs.Csv.{line_text}
use Rattle.vx_wisconsin.specs.Wisconsin.{row_of}
use Rattle.vx_wisconsin.proofs.writing.put_lines.Given as goal

abbrev pub invariant-loop-first : goal.invariant-loop-first
invariant-loop-first l = record {
  after : l.from ≤ l.first;
  before : l.first ≤ l.to;
  room : (l.first - l.from) * 432 ≤ l.start;
  within : l.start ≤ length l.buffer;
  text : drop l.start l.buffer ≡ flat_map line_text (map (row_of l.rows) (range_with_len l.first (l.to - l.first)));
}

abbrev pub decreases-loop-first : goal.decreases-loop-first
decreases-loop-first l = l.first - l.from
