use Rattle.std.proofs.Common.{◌≡◌, drop, map, flat_map}
use Rattle.std.specs.List.{fold}
use Rattle.vx_rows_values.specs.ValueView.{val_of}
use Rattle.vx_plan_nodes.specs.ByteRouter.{hash_byte, value_bytes}
use Rattle.vx_exchange.proofs.byte_router.hash_key.Given as goal

abbrev pub invariant-loop-value : goal.invariant-loop-value
invariant-loop-value l = fold hash_byte l.hash (flat_map value_bytes (map val_of (drop l.value-index l.key))) ≡ fold hash_byte l.fn.start (flat_map value_bytes (map val_of l.key))
