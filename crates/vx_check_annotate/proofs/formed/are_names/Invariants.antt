use Rattle.std.proofs.Common.{◌≡◌, map, drop, string_bytes}
use Rattle.vx_plan_json.specs.Formed.{are_names}
use Rattle.vx_check_annotate.proofs.formed.are_names.Given as goal

abbrev pub invariant-loop-name : goal.invariant-loop-name
invariant-loop-name l = are_names (map string_bytes l.names) ≡ are_names (map string_bytes (drop l.name-index l.names))
