use Rattle.std.proofs.Common.{◌≡◌, ◌≤◌, ◌-◌, map, take, length}
use Rattle.indexmap.specs.IndexSet.{insert_all}
use Rattle.vx_rows_values.specs.Values.{row_eq}
use Rattle.vx_match_keys.specs.Columns.{number_key}
use Rattle.vx_match_keys.specs.Numbers.{numbers_of}
use Rattle.vx_match_keys.proofs.direct_keys.DirectKeys.number_block.Given as goal

abbrev pub invariant-loop-done : goal.invariant-loop-done
invariant-loop-done l = record {
  within : l.done ≤ length l.keys;
  len : length l.found ≡ length l.fn.found;
  numbers : take l.done l.found ≡ numbers_of l.initial.self (take l.done (map number_key l.keys));
  keys : l.self ≡ insert_all row_eq l.initial.self (take l.done (map number_key l.keys));
}

abbrev pub decreases-loop-done : goal.decreases-loop-done
decreases-loop-done l = l.count - l.done
