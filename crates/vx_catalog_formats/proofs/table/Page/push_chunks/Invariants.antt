use Rattle.std.proofs.Common.{◌≡◌, ◌++◌, take, flat_map, string_bytes}
use Rattle.vx_rows_views.specs.Chunks.{all_rows}
use Rattle.vx_catalog_formats.specs.Table.{line, cut_line}
use Rattle.vx_catalog_formats.proofs.table.Page.push_chunks.Given as goal

abbrev pub invariant-loop-i : goal.invariant-loop-i
invariant-loop-i l = record {
  text : string_bytes l.self.text ≡ string_bytes l.fn.self.text ++ flat_map (λ r. cut_line l.fn.self.columns (line l.widths r)) (all_rows (take l.i l.chunks));
  columns : l.self.columns ≡ l.fn.self.columns;
}
