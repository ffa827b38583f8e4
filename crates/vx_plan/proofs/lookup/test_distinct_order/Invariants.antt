use Rattle.std.proofs.Common.{◌≡◌, ℕ, List, [], drop, take, bytes_eq}
use Rattle.std.specs.List.{list_any}
use Rattle.vx_plan_json.specs.Fault.{duplicate_column}
use Rattle.vx_plan.specs.Lookup.{tested_onto, is_among, order_names}
use Rattle.vx_plan.proofs.SeenFacts.{has_text}
use Rattle.vx_plan.proofs.lookup.test_distinct_order.Given as goal

abbrev pub invariant-loop-i : goal.invariant-loop-i
invariant-loop-i l = record {
  tested : tested_onto is_among (duplicate_column l.node) (order_names (take l.i l.order)) (order_names (drop l.i l.order)) ≡ tested_onto is_among (duplicate_column l.node) [] (order_names l.order);
  seen : (bs : List ℕ) → has_text l.seen bs ≡ list_any (bytes_eq bs) (order_names (take l.i l.order));
}
