use Rattle.std.proofs.Common.{◌≡◌, ◌++◌, map, take, string_bytes}
use Rattle.vx_plan.proofs.columns.put_names.Given as goal

abbrev pub invariant-loop-name : goal.invariant-loop-name
invariant-loop-name l = map string_bytes l.list.items ≡ map string_bytes l.initial.list.items ++ map string_bytes (take l.name-index l.names)
