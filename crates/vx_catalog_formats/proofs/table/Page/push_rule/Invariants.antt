use Rattle.std.proofs.Common.{◌≡◌, take, flat_map, string_bytes}
use Rattle.vx_catalog_formats.specs.Table.{dashes}
use Rattle.vx_catalog_formats.proofs.table.Page.push_rule.Given as goal

abbrev pub invariant-loop-width : goal.invariant-loop-width
invariant-loop-width l = record {
  line : string_bytes l.self.line ≡ flat_map dashes (take l.width-index l.widths);
  text : string_bytes l.self.text ≡ string_bytes l.fn.self.text;
  columns : l.self.columns ≡ l.fn.self.columns;
}
