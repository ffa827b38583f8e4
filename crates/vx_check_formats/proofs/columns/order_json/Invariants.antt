use Rattle.std.proofs.Common.{◌≡◌, map, take}
use Rattle.serde_json.specs.View.{view}
use Rattle.vx_check_formats.specs.Json.{entry_json}
use Rattle.vx_check_formats.proofs.columns.order_json.Given as goal

abbrev pub invariant-loop-entry : goal.invariant-loop-entry
invariant-loop-entry l = map view l.list.items ≡ map (entry_json l.names) (take l.entry-index l.order)
