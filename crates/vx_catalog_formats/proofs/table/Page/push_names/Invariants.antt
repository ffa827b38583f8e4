use Rattle.std.proofs.Common.{◌≡◌, map, take, flat_map, string_bytes}
use Rattle.std.specs.List.{zip}
use Rattle.vx_rows_values.specs.Values.{text}
use Rattle.vx_catalog_formats.specs.Table.{field}
use Rattle.vx_catalog_formats.proofs.table.Page.push_names.Given as goal

abbrev pub invariant-loop-column : goal.invariant-loop-column
invariant-loop-column l = record {
  line : string_bytes l.self.line ≡ flat_map field (take l.column (zip l.widths (map text (map string_bytes l.names))));
  text : string_bytes l.self.text ≡ string_bytes l.fn.self.text;
  columns : l.self.columns ≡ l.fn.self.columns;
}
