use Rattle.std.proofs.Common.{◌≡◌, map, take, string_bytes}
use Rattle.vx_rows_values.specs.Values.{text}
use Rattle.vx_catalog_formats.specs.Table.{cell_width}
use Rattle.vx_catalog_formats.proofs.widths.name_widths.Given as goal

abbrev pub invariant-loop-name : goal.invariant-loop-name
invariant-loop-name l = l.widths.items ≡ map (λ name. cell_width (text name)) (map string_bytes (take l.name-index l.names))
