use Rattle.std.proofs.Common.{◌≡◌, ◌++◌, take, flat_map, string_bytes}
use Rattle.vx_catalog_formats.specs.Table.{line, cut_line}
use Rattle.vx_catalog_formats.proofs.table.Page.push_chunk.Given as goal

abbrev pub invariant-loop-i : goal.invariant-loop-i
invariant-loop-i l = record {
  text : string_bytes l.self.text ≡ string_bytes l.fn.self.text ++ flat_map (λ r. cut_line l.fn.self.columns (line l.widths r)) (take l.i l.chunk.rows);
  columns : l.self.columns ≡ l.fn.self.columns;
}
