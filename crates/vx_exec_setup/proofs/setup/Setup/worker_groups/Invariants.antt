use Rattle.std.proofs.Common.{◌≡◌, map, take, string_bytes}
use Rattle.vx_exec_setup.specs.Setup.{worker_groups_named}
use Rattle.vx_exec_setup.proofs.setup.Setup.worker_groups.Given as goal

abbrev pub invariant-loop-name : goal.invariant-loop-name
invariant-loop-name l = l.worker_groups.items ≡ worker_groups_named l.self.sizes (map string_bytes (take l.name-index l.names))
