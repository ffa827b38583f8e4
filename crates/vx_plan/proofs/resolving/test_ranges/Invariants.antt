use Rattle.std.proofs.Common.{◌≡◌, ℕ, List, [], map, drop, take, bytes_eq}
use Rattle.std.specs.List.{list_any}
use Rattle.vx_rows_values.specs.Ranges.{RangeForm, range_form}
use Rattle.vx_plan_json.specs.Fault.{bad_range}
use Rattle.vx_plan.specs.Lookup.{tested_onto}
use Rattle.vx_plan.specs.Resolve.{is_bad_range}
use Rattle.vx_plan.proofs.SeenFacts.{has_text}
use Rattle.vx_plan.proofs.resolving.test_ranges.Given as goal

abbrev pub invariant-loop-i : goal.invariant-loop-i
invariant-loop-i l = record {
  tested : tested_onto is_bad_range (λ r. bad_range r.name) (map range_form (take l.i l.ranges)) (map range_form (drop l.i l.ranges)) ≡ tested_onto is_bad_range (λ r. bad_range r.name) [] (map range_form l.ranges);
  seen : (bs : List ℕ) → has_text l.seen bs ≡ list_any (λ (r : RangeForm). bytes_eq bs r.name) (map range_form (take l.i l.ranges));
}
