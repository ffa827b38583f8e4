-- A plan that was read, as its document says it.
use Rattle.std.specs.Prelude.{map, string_bytes}
use Rattle.vx_plan_json.specs.declared.document.Plan.{Plan}
use Rattle.vx_plan_json.specs.Document.{Document, tree_of}
use Rattle.vx_rows_values.specs.Ranges.{range_form}

abbrev pub document_of : Plan → Document
document_of p = record { sizes = map string_bytes p.sizes.items; ranges = map range_form p.ranges.items; total = p.total; derives = p.derives; root = tree_of p.root }
