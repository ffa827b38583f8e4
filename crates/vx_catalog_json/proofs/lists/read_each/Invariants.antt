use Rattle.std.proofs.Common.{◌≡◌, [], map, drop}
use Rattle.serde_json.specs.View.{view}
use Rattle.vx_catalog_json.specs.Look.{each_onto}
use Rattle.vx_catalog_json.proofs.lists.read_each.Given as goal

abbrev pub invariant-loop-value : goal.invariant-loop-value
invariant-loop-value g l = each_onto g.R.Reader.form (map g.R.Reader.look l.found.items) (map view (drop l.value-index l.values)) ≡ each_onto g.R.Reader.form [] (map view l.values)
