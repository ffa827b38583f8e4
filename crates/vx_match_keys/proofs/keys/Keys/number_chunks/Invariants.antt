use Rattle.std.proofs.Common.{◌≡◌, ◌++◌, map, take}
use Rattle.vx_rows_values.specs.Values.{row_eq, pick}
use Rattle.indexmap.specs.IndexSet.{insert_all}
use Rattle.vx_rows_views.specs.Chunks.{all_rows}
use Rattle.vx_match_keys.specs.Numbers.{numbers_of}
use Rattle.vx_match_keys.proofs.keys.Keys.number_chunks.Given as goal

abbrev pub invariant-loop-i : goal.invariant-loop-i
invariant-loop-i l = record {
  numbers : l.numbers.items ≡ l.initial.numbers.items ++ numbers_of l.initial.self (map (pick l.columns) (all_rows (take l.i l.chunks)));
  keys : l.self ≡ insert_all row_eq l.initial.self (map (pick l.columns) (all_rows (take l.i l.chunks)));
}
