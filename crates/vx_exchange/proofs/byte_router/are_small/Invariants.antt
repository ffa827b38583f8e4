use Rattle.std.proofs.Common.{◌<◌, ◌^◌, IsTrue, All, take}
use Rattle.std.specs.Int.{w64, cast_unsigned}
use Rattle.vx_exchange.proofs.byte_router.are_small.Given as goal

abbrev pub invariant-loop-key : goal.invariant-loop-key
invariant-loop-key l = IsTrue l.small → All (λ key. cast_unsigned w64 key < 2 ^ 32) (take l.key-index l.keys)
