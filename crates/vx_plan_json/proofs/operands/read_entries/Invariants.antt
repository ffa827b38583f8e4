use Rattle.std.proofs.Common.{◌≡◌, [], map, drop}
use Rattle.serde_json.specs.View.{view}
use Rattle.vx_catalog_json.specs.Look.{each_onto}
use Rattle.vx_plan_json.specs.Document.{entry_form}
use Rattle.vx_plan_json.specs.Form.{projected_in}
use Rattle.vx_plan_json.proofs.operands.read_entries.Given as goal

abbrev pub invariant-loop-item : goal.invariant-loop-item
invariant-loop-item l = each_onto (projected_in l.levels) (map entry_form l.found.items) (map view (drop l.item-index l.item-items)) ≡ each_onto (projected_in l.levels) [] (map view l.item-items)
