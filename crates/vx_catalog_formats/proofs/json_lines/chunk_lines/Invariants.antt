use Rattle.std.proofs.Common.{◌≡◌, map, take, string_bytes}
use Rattle.vx_rows_views.specs.Chunks.{all_rows}
use Rattle.vx_catalog_formats.specs.JsonLines.{json_text}
use Rattle.vx_catalog_formats.proofs.json_lines.chunk_lines.Given as goal

abbrev pub invariant-loop-i : goal.invariant-loop-i
invariant-loop-i l = l.lines.items ≡ json_text (map string_bytes l.names) (all_rows (take l.i l.chunks))
