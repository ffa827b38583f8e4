use Rattle.std.proofs.Common.{◌≡◌, ◌++◌, map, flat_map, take, string_bytes}
use Rattle.vx_catalog_formats.specs.JsonLines.{row_line}
use Rattle.vx_catalog_formats.proofs.json_lines.with_chunk.Given as goal

abbrev pub invariant-loop-i : goal.invariant-loop-i
invariant-loop-i l = l.lines.items ≡ l.initial.lines.items ++ flat_map (row_line (map string_bytes l.names)) (take l.i l.chunk.rows)
