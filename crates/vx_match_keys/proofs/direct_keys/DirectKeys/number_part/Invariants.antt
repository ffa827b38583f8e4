use Rattle.std.proofs.Common.{◌≡◌, map, take, length}
use Rattle.indexmap.specs.IndexSet.{insert_all}
use Rattle.vx_rows_values.specs.Values.{row_eq}
use Rattle.vx_match_keys.specs.Columns.{number_key}
use Rattle.vx_match_keys.specs.Numbers.{numbers_of}
use Rattle.vx_match_keys.proofs.direct_keys.DirectKeys.number_part.Given as goal

abbrev pub invariant-loop-i : goal.invariant-loop-i
invariant-loop-i l = record {
  len : length l.found ≡ length l.fn.found;
  numbers : take l.i l.found ≡ numbers_of l.initial.self (take l.i (map number_key l.keys));
  keys : l.self ≡ insert_all row_eq l.initial.self (take l.i (map number_key l.keys));
}
