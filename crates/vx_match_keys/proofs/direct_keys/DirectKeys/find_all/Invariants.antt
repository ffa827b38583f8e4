use Rattle.std.proofs.Common.{◌≡◌, ◌≤◌, ◌-◌, map, take, length}
use Rattle.std.specs.List.{position_or_len}
use Rattle.vx_rows_values.specs.Values.{row_eq}
use Rattle.vx_match_keys.proofs.direct_keys.DirectKeys.find_all.Given as goal

abbrev pub invariant-loop-from : goal.invariant-loop-from
invariant-loop-from l = record {
  within : l.from ≤ length l.column;
  numbers : l.numbers.items ≡ map (λ k. position_or_len (row_eq k) l.self) (take l.from l.column);
}

abbrev pub decreases-loop-from : goal.decreases-loop-from
decreases-loop-from l = l.count - l.from
