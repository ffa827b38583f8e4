use Rattle.std.proofs.Common.{◌≡◌, map, take}
use Rattle.std.specs.List.{position_or_len}
use Rattle.vx_rows_values.specs.Values.{row_eq}
use Rattle.vx_match_keys.proofs.hashed_keys.HashedKeys.find_all.Given as goal

abbrev pub invariant-loop-i : goal.invariant-loop-i
invariant-loop-i l = l.numbers.items ≡ map (λ k. position_or_len (row_eq k) l.self) (take l.i l.column)
