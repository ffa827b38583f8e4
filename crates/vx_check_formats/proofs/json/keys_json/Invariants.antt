use Rattle.std.proofs.Common.{◌≡◌, map, take}
use Rattle.serde_json.specs.View.{view}
use Rattle.vx_check_formats.specs.Json.{columns_json}
use Rattle.vx_check_formats.proofs.json.keys_json.Given as goal

abbrev pub invariant-loop-key : goal.invariant-loop-key
invariant-loop-key l = map view l.list.items ≡ map (columns_json l.names) (map (λ k. k.items) (take l.key-index l.keys))
