use Rattle.std.proofs.Common.{◌≡◌, map, take}
use Rattle.vx_rows_values.specs.Values.{num}
use Rattle.vx_rows_values.specs.ValueView.{val_of}
use Rattle.vx_match_grouping.proofs.column.as_values.Given as goal

abbrev pub invariant-loop-number : goal.invariant-loop-number
invariant-loop-number l = map val_of l.values.items ≡ map (λ n. num n) (take l.number-index l.numbers)
