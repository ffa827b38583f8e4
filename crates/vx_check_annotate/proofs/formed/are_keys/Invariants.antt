use Rattle.std.proofs.Common.{◌≡◌, map, drop, string_bytes}
use Rattle.std.specs.List.{list_all}
use Rattle.vx_plan_json.specs.Formed.{are_names}
use Rattle.vx_check_annotate.proofs.formed.are_keys.Given as goal

abbrev pub invariant-loop-key : goal.invariant-loop-key
invariant-loop-key l = list_all are_names (map (λ k. map string_bytes k.items) l.keys) ≡ list_all are_names (map (λ k. map string_bytes k.items) (drop l.key-index l.keys))
