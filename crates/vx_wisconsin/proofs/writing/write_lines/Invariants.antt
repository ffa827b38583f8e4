use Rattle.std.proofs.Common.{◌≡◌, ◌-◌, ◌≤◌, map, flat_map, length}
use Rattle.std.specs.List.{range_with_len}
use Rattle.std.specs.Io.KnownBytes.{Appends}
use Rattle.vx_catalog.specs.Csv.{line_text}
use Rattle.vx_wisconsin.specs.Wisconsin.{row_of}
use Rattle.vx_wisconsin.proofs.writing.write_lines.Given as goal

abbrev pub invariant-loop-written : goal.invariant-loop-written
invariant-loop-written g l = record {
  within : l.written ≤ l.rows;
  room : length l.buffer ≡ 64800;
  text : Appends (g.W.ByteOut.contents l.initial.writer) (g.W.ByteOut.contents l.writer) (flat_map line_text (map (row_of l.rows) (range_with_len 0 l.written)));
  fails : g.W.ByteOut.has_failed l.writer ≡ g.W.ByteOut.has_failed l.initial.writer;
}

abbrev pub decreases-loop-written : goal.decreases-loop-written
decreases-loop-written g l = l.rows - l.written
