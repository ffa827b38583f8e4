use Rattle.std.proofs.Common.{◌≡◌, ◌++◌, map, take, string_bytes}
use Rattle.std.specs.Arc.{arc_value}
use Rattle.vx_plan_nodes.proofs.name.Name.with_prefix.Given as goal

abbrev pub invariant-loop-place : goal.invariant-loop-place
invariant-loop-place l = l.list.items ≡ map (λ n. string_bytes (arc_value l.prefix) ++ n) (take l.place (map string_bytes (arc_value l.names).items))
