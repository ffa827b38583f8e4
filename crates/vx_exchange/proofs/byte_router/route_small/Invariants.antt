use Rattle.std.proofs.Common.{◌≡◌, ◌+◌, ◌%◌, map, take, length}
use Rattle.std.specs.List.{fold}
use Rattle.std.specs.Int.{w32, w64, to_be_bytes, cast_unsigned}
use Rattle.vx_plan_nodes.specs.ByteRouter.{hash_byte}
use Rattle.vx_exchange.proofs.byte_router.route_small.Given as goal

abbrev pub invariant-loop-i : goal.invariant-loop-i
invariant-loop-i l = record {
  len : length l.consumers ≡ length l.keys;
  done : take l.i l.consumers ≡ map (λ key. fold hash_byte l.zeros (to_be_bytes w32 (cast_unsigned w64 key)) % (l.mask + 1)) (take l.i l.keys);
}
