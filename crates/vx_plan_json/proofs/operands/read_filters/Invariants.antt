use Rattle.std.proofs.Common.{◌≡◌, [], map, drop}
use Rattle.serde_json.specs.View.{view}
use Rattle.vx_catalog_json.specs.Look.{each_onto}
use Rattle.vx_plan_json.specs.Document.{filter_form}
use Rattle.vx_plan_json.specs.Form.{filter_in}
use Rattle.vx_plan_json.proofs.operands.read_filters.Given as goal

abbrev pub invariant-loop-item : goal.invariant-loop-item
invariant-loop-item l = each_onto (filter_in l.levels) (map filter_form l.found.items) (map view (drop l.item-index l.item-items)) ≡ each_onto (filter_in l.levels) [] (map view l.item-items)
