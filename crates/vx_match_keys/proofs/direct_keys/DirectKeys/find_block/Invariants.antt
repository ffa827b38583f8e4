use Rattle.std.proofs.Common.{◌≡◌, map, take, length}
use Rattle.std.specs.List.{position_or_len}
use Rattle.vx_rows_values.specs.Values.{row_eq}
use Rattle.vx_match_keys.specs.Columns.{number_key}
use Rattle.vx_match_keys.proofs.direct_keys.DirectKeys.find_block.Given as goal

abbrev pub invariant-loop-i : goal.invariant-loop-i
invariant-loop-i l = record {
  len : length l.found ≡ length l.fn.found;
  numbers : take l.i l.found ≡ map (λ k. position_or_len (row_eq k) l.self) (take l.i (map number_key l.keys));
}
