use Rattle.std.proofs.Common.{◌≡◌, ◌++◌, take, drop}
use Rattle.vx_rows_values.specs.Values.{row_eq}
use Rattle.indexmap.specs.IndexSet.{insert_all}
use Rattle.vx_match_keys.specs.Numbers.{numbers_of}
use Rattle.vx_match_keys.proofs.hashed_keys.HashedKeys.number_from.Given as goal

abbrev pub invariant-loop-i : goal.invariant-loop-i
invariant-loop-i l = record {
  numbers : l.numbers.items ≡ l.initial.numbers.items ++ numbers_of l.initial.self (take l.i (drop l.from l.column));
  keys : l.self ≡ insert_all row_eq l.initial.self (take l.i (drop l.from l.column));
}
