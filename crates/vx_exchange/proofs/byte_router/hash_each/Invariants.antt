use Rattle.std.proofs.Common.{◌≡◌, drop}
use Rattle.std.specs.List.{fold}
use Rattle.vx_plan_nodes.specs.ByteRouter.{hash_byte}
use Rattle.vx_exchange.proofs.byte_router.hash_each.Given as goal

abbrev pub invariant-loop-byte : goal.invariant-loop-byte
invariant-loop-byte l = fold hash_byte l.hash (drop l.byte-index l.bytes) ≡ fold hash_byte l.fn.start l.bytes
