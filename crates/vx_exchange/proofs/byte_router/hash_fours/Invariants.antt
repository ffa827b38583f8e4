use Rattle.std.proofs.Common.{◌≡◌, ◌*◌, take}
use Rattle.std.specs.List.{fold}
use Rattle.vx_plan_nodes.specs.ByteRouter.{hash_byte}
use Rattle.vx_exchange.proofs.byte_router.hash_fours.Given as goal

abbrev pub invariant-loop-i : goal.invariant-loop-i
invariant-loop-i l = l.hash ≡ fold hash_byte l.fn.start (take (l.i * 4) l.bytes)
