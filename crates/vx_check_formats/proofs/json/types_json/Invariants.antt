use Rattle.std.proofs.Common.{◌≡◌, map, take}
use Rattle.serde_json.specs.View.{view}
use Rattle.vx_check_formats.specs.Json.{type_json}
use Rattle.vx_check_formats.proofs.json.types_json.Given as goal

abbrev pub invariant-loop-kind : goal.invariant-loop-kind
invariant-loop-kind l = map view l.list.items ≡ map type_json (take l.kind-index l.types)
