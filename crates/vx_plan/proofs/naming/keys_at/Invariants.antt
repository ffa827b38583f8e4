use Rattle.std.proofs.Common.{◌≡◌, map, take, string_bytes}
use Rattle.vx_plan.specs.ByName.{names_at}
use Rattle.vx_plan.proofs.naming.keys_at.Given as goal

abbrev pub invariant-loop-key : goal.invariant-loop-key
invariant-loop-key l = map (λ k. map string_bytes k.items) l.found.items ≡ map (names_at l.names) (map (λ k. k.items) (take l.key-index l.keys))
