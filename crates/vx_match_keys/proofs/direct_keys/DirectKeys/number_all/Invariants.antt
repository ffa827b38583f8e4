use Rattle.std.proofs.Common.{◌≡◌, ◌≤◌, ◌-◌, ◌++◌, take, length}
use Rattle.indexmap.specs.IndexSet.{insert_all}
use Rattle.vx_rows_values.specs.Values.{row_eq}
use Rattle.vx_match_keys.specs.Numbers.{numbers_of}
use Rattle.vx_match_keys.proofs.direct_keys.DirectKeys.number_all.Given as goal

abbrev pub invariant-loop-from : goal.invariant-loop-from
invariant-loop-from l = record {
  within : l.from ≤ length l.column;
  numbers : l.numbers.items ≡ l.initial.numbers.items ++ numbers_of l.initial.self (take l.from l.column);
  keys : l.self ≡ insert_all row_eq l.initial.self (take l.from l.column);
}

abbrev pub decreases-loop-from : goal.decreases-loop-from
decreases-loop-from l = l.count - l.from
