use Rattle.std.proofs.Common.{◌≡◌, ◌++◌, take}
use Rattle.vx_plan_nodes.proofs.name.share_names.Given as goal

abbrev pub invariant-loop-name : goal.invariant-loop-name
invariant-loop-name l = l.list.items ≡ l.initial.list.items ++ take l.name-index l.names
