use Rattle.std.proofs.Common.{◌≡◌, take, flat_map, string_bytes}
use Rattle.std.specs.List.{zip}
use Rattle.vx_rows.specs.View.{row}
use Rattle.vx_catalog_formats.specs.Table.{field}
use Rattle.vx_catalog_formats.proofs.table.Page.push_row.Given as goal

abbrev pub invariant-loop-column : goal.invariant-loop-column
invariant-loop-column l = record {
  line : string_bytes l.self.line ≡ flat_map field (take l.column (zip l.widths (row l.chunk l.i)));
  text : string_bytes l.self.text ≡ string_bytes l.fn.self.text;
  columns : l.self.columns ≡ l.fn.self.columns;
}
