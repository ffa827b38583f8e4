use Rattle.std.proofs.Common.{◌≡◌, ◌++◌, List, [], map, take, length, get_or}
use Rattle.indexmap.specs.IndexSet.{insert_all}
use Rattle.vx_rows_values.specs.Values.{Row, row_eq}
use Rattle.vx_rows.specs.View.{ArePositions}
use Rattle.vx_match_keys.specs.Numbers.{numbers_of}
use Rattle.vx_match_keys.proofs.seen.first_places.Given as goal

abbrev pub invariant-loop-i : goal.invariant-loop-i
invariant-loop-i l = record {
  there : ArePositions l.i l.places.items;
  new : (ks xs : List Row) → length ks ≡ l.known → l.numbers ≡ numbers_of ks xs → insert_all row_eq ks (take l.i xs) ≡ ks ++ map (λ i. get_or xs i []) l.places.items;
}
