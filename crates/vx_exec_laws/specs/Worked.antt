-- Worked plans of two phases and of concatenation, over a relation t (id, k, v) with key [id] and order [id].
use Rattle.std.specs.Prelude.{◌≡◌, ℕ, true, false, pos, negsuc, List, [], ◌∷◌, Some, None}
use Rattle.vx_rows_values.specs.declared.order.OrderEntry.{OrderEntry}
use Rattle.vx_rows_values.specs.Order.{rising}
use Rattle.vx_rows_values.specs.declared.value.ColType.TheVariants.{Int, Text}
use Rattle.vx_rows_values.specs.Values.{Val, num, text, Row}
use Rattle.vx_catalog_relations.specs.Relation.{Relation}
use Rattle.vx_plan_nodes.specs.Plan.{Size, one_worker, group_of, Route, by_hash, by_range, Part, one, any, routed, Claim, Aggregate, sum, count_rows, sort, group, plain, partial, final, route_to, gather, concat, Plan, scan, unary, exchange}
use Rattle.vx_plan_nodes.specs.Serial.{rows, serial, unary_rows}
use Rattle.vx_plan_nodes.specs.Erase.{erase}
use Rattle.vx_plan_nodes.specs.Phases.{is_open, merged, first_columns}
use Rattle.vx_plan_nodes.specs.Types.{well_formed}
use Rattle.vx_plan_nodes.specs.Typed.{Scope, typed}
use Rattle.vx_check_rules.specs.Refusal.{inputs_not_matched, order_not_shown, key_not_shown, refusal}

abbrev pub t_types : Relation
t_types = record { name = []; names = []; types = Int ∷ Text ∷ Int ∷ []; keys = (0 ∷ []) ∷ []; order = rising (0 ∷ []) }

abbrev pub catalog : ℕ → Relation
catalog r = t_types

-- one relation, one size name, one range of numbers
abbrev pub scope : Scope
scope = record { catalog = t_types ∷ []; ranges = (num (pos 0) ∷ num (pos 7) ∷ []) ∷ []; sizes = 1 }

abbrev pub many : Size
many = group_of 0

abbrev pub h : Route
h = by_hash (104 ∷ [])

abbrev pub r : Route
r = by_range 0

abbrev pub claimed : Part → List OrderEntry → List (List ℕ) → Claim
claimed p order keys = record { part = p; order = order; keys = keys }

abbrev pub first : List ℕ
first = 0 ∷ []

-- the order by it, rising
abbrev pub by_first : List OrderEntry
by_first = rising first

abbrev pub shared_t : ℕ → Plan
shared_t n = scan n (claimed any [] []) 0 true many

-- the partial: by k, sum of v
abbrev pub sums : List Aggregate
sums = sum 2 ∷ []

-- what a final makes of it: by column 0, the sum of column 1
abbrev pub of_sums : List Aggregate
of_sums = merged 1 sums

-- a merging gather over a sort over a final by k over any input
abbrev pub above : List Aggregate → Plan → Plan
above puts p =
    exchange 0 (claimed one by_first (first ∷ [])) gather by_first
    (unary 1 (claimed (routed h first) by_first (first ∷ [])) (sort false by_first) (unary 2 (claimed (routed h first) [] (first ∷ [])) (group final (first_columns 1) puts) p))

-- sums in two phases; the exchange and the partial claim these keys
abbrev pub two_phase : (exchange_keys partial_keys : List (List ℕ)) → Plan
two_phase exchange_keys partial_keys =
    above of_sums (exchange 3 (claimed (routed h first) [] exchange_keys) (route_to many h first) [] (unary 4 (claimed any [] partial_keys) (group partial (1 ∷ []) sums) (shared_t 5)))

-- the same counting
abbrev pub counting : Plan
counting = above (sum 1 ∷ []) (exchange 3 (claimed (routed h first) [] []) (route_to many h first) [] (unary 4 (claimed any [] []) (group partial (1 ∷ []) (count_rows ∷ [])) (shared_t 5)))

-- a final that counts parts is none
abbrev pub counting_parts : Plan
counting_parts = above (count_rows ∷ []) (exchange 3 (claimed (routed h first) [] []) (route_to many h first) [] (unary 4 (claimed any [] []) (group partial (1 ∷ []) (count_rows ∷ [])) (shared_t 5)))

-- without the exchange
abbrev pub not_routed : Plan
not_routed = above of_sums (unary 3 (claimed any [] []) (group partial (1 ∷ []) sums) (shared_t 4))

-- all rows counted
abbrev pub counted : Plan
counted =
    unary 0 (claimed one [] []) (group final [] (sum 0 ∷ [])) (exchange 1 (claimed one [] []) gather [] (unary 2 (claimed any [] []) (group partial [] (count_rows ∷ [])) (shared_t 3)))

-- sums in two phases, the parts sorted on each worker and merged by a gather; the keys that the sort of parts claims, and its order
abbrev pub merged_sums : (sort_keys : List (List ℕ)) → List OrderEntry → Plan
merged_sums sort_keys order =
    unary 0 (claimed one by_first (first ∷ [])) (group final (first_columns 1) of_sums)
    (exchange 1 (claimed one by_first []) gather by_first (unary 2 (claimed any by_first sort_keys) (sort true order) (unary 3 (claimed any [] []) (group partial (1 ∷ []) sums) (shared_t 4))))

-- a partial as root, a final over a scan, and a sort of whole rows between the phases
abbrev pub root_partial : Plan
root_partial = unary 0 (claimed one [] []) (group partial (1 ∷ []) sums) (scan 1 (claimed one [] []) 0 false one_worker)

abbrev pub final_over_scan : Plan
final_over_scan = unary 0 (claimed one [] []) (group final (first_columns 1) of_sums) (scan 1 (claimed one [] []) 0 false one_worker)

abbrev pub sorted_partial : Plan
sorted_partial = unary 0 (claimed one [] []) (group final (first_columns 1) of_sums) (unary 1 (claimed one [] []) (sort false by_first) (unary 2 (claimed one [] []) (group partial (1 ∷ []) sums) (scan 3 (claimed one [] []) 0 false one_worker)))

-- by v and then id, rising
abbrev pub v_and_id : List OrderEntry
v_and_id = rising (2 ∷ 0 ∷ [])

-- a concat over a sort on v and id over an exchange by v; the sort claims this part, the root this order
abbrev pub in_ranges : Route → Part → (root_order : List OrderEntry) → Plan
in_ranges route p root_order =
    exchange 0 (claimed one root_order (first ∷ [])) concat []
    (unary 1 (claimed p v_and_id (first ∷ [])) (sort false v_and_id) (exchange 2 (claimed (routed route (2 ∷ [])) [] (first ∷ [])) (route_to many route (2 ∷ [])) [] (scan 3 (claimed any [] (first ∷ [])) 0 true many)))

-- rows
abbrev pub a : Val
a = text (97 ∷ [])

abbrev pub b : Val
b = text (98 ∷ [])

abbrev pub c : Val
c = text (99 ∷ [])

abbrev pub n : ℕ → Val
n i = num (pos i)

abbrev pub t_rows : List Row
t_rows = (n 0 ∷ a ∷ n 5 ∷ []) ∷ (n 1 ∷ b ∷ n 7 ∷ []) ∷ (n 2 ∷ a ∷ num (negsuc 1) ∷ []) ∷ (n 3 ∷ c ∷ n 7 ∷ []) ∷ []

abbrev pub db : ℕ → List Row
db k = t_rows

-- other rows, whose keys come in no order
abbrev pub mixed : List Row
mixed = (n 0 ∷ c ∷ n 5 ∷ []) ∷ (n 1 ∷ a ∷ n 7 ∷ []) ∷ (n 2 ∷ b ∷ n 1 ∷ []) ∷ (n 3 ∷ a ∷ n 2 ∷ []) ∷ []

-- a sum that leaves 64 bits on the way
abbrev pub large : List Row
large = (n 0 ∷ a ∷ n 9223372036854775807 ∷ []) ∷ (n 1 ∷ a ∷ n 1 ∷ []) ∷ (n 2 ∷ a ∷ num (negsuc 0) ∷ []) ∷ []

-- what these plans come to: each fact holds by computing
pub record WorkedPhases : Type 0 where
  pub accepted : refusal catalog true (two_phase [] []) ≡ None
  pub counts_accepted : refusal catalog true counting ≡ None
  pub counted_accepted : refusal catalog false counted ≡ None
  pub typed_two_phase : typed scope (two_phase [] []) ≡ true
  pub typed_counting : typed scope counting ≡ true
  -- K4 node=2, and K8 at the partial and at the exchange
  pub unrouted : refusal catalog true not_routed ≡ Some (2, inputs_not_matched)
  pub key_of_partial : refusal catalog true (two_phase [] (first ∷ [])) ≡ Some (4, key_not_shown)
  pub key_of_exchange : refusal catalog true (two_phase (first ∷ []) []) ≡ Some (3, key_not_shown)
  -- parts that are sorted and merged; K8 and K6 at the sort
  pub merging_accepted : refusal catalog true (merged_sums [] by_first) ≡ None
  pub typed_merging : typed scope (merged_sums [] by_first) ≡ true
  pub key_of_sort : refusal catalog true (merged_sums (first ∷ []) by_first) ≡ Some (2, key_not_shown)
  pub order_of_sort : refusal catalog true (merged_sums [] (rising (1 ∷ []))) ≡ Some (2, order_not_shown)
  -- phases that do not fit
  pub partial_at_root : is_open root_partial ≡ true
  pub no_partial : well_formed catalog final_over_scan ≡ false
  pub no_exchange : well_formed catalog sorted_partial ≡ false
  pub sorted_on_sums : well_formed catalog (merged_sums [] (rising (1 ∷ []))) ≡ false
  pub parts_counted : well_formed catalog counting_parts ≡ false
  -- what they mean, with and without exchanges: rows and nodes
  pub means : serial db (unary 0 (claimed one [] []) (sort false by_first) (two_phase [] [])) ≡ rows ((a ∷ n 3 ∷ []) ∷ (b ∷ n 7 ∷ []) ∷ (c ∷ n 7 ∷ []) ∷ [])
  pub erased_means : serial db (erase (two_phase [] [])) ≡ rows ((a ∷ n 3 ∷ []) ∷ (b ∷ n 7 ∷ []) ∷ (c ∷ n 7 ∷ []) ∷ [])
  pub erased_is : erase counted ≡ unary 0 (claimed one [] []) (group plain [] (count_rows ∷ [])) (scan 1 (claimed one [] []) 0 false one_worker)
  pub merging_means : serial (λ k. mixed) (merged_sums [] by_first) ≡ rows ((a ∷ n 9 ∷ []) ∷ (b ∷ n 1 ∷ []) ∷ (c ∷ n 5 ∷ []) ∷ [])
  pub erased_merging : erase (merged_sums [] by_first)
      ≡ unary 0 (claimed one [] []) (sort false by_first) (unary 1 (claimed one [] []) (group plain (1 ∷ []) sums) (scan 2 (claimed one [] []) 0 false one_worker))
  pub counts : serial db (erase counting) ≡ rows ((a ∷ n 2 ∷ []) ∷ (b ∷ n 1 ∷ []) ∷ (c ∷ n 1 ∷ []) ∷ [])
  pub all_counted : serial db (erase counted) ≡ rows ((n 4 ∷ []) ∷ [])
  pub none_counted : serial (λ k. []) (erase counted) ≡ rows []
  -- a partial of some rows overflows, the whole does not; the final of parts is the whole
  pub part_overflows : unary_rows (group partial (1 ∷ []) sums) ((n 0 ∷ a ∷ n 9223372036854775807 ∷ []) ∷ (n 1 ∷ a ∷ n 1 ∷ []) ∷ []) ≡ None
  pub whole_fits : serial (λ k. large) (erase (two_phase [] [])) ≡ rows ((a ∷ n 9223372036854775807 ∷ []) ∷ [])
  pub final_adds : unary_rows (group final (first_columns 1) of_sums) ((a ∷ n 9223372036854775807 ∷ []) ∷ (a ∷ n 1 ∷ []) ∷ (a ∷ num (negsuc 0) ∷ []) ∷ []) ≡ Some ((a ∷ n 9223372036854775807 ∷ []) ∷ [])
  pub final_overflows : unary_rows (group final (first_columns 1) of_sums) ((a ∷ n 9223372036854775807 ∷ []) ∷ (a ∷ n 1 ∷ []) ∷ []) ≡ None
  -- concatenation
  pub concat_accepted : refusal catalog true (in_ranges r (routed r (2 ∷ [])) v_and_id) ≡ None
  pub concat_typed : typed scope (in_ranges r (routed r (2 ∷ [])) v_and_id) ≡ true
  pub concat_of_hash : refusal catalog true (in_ranges h (routed h (2 ∷ [])) v_and_id) ≡ Some (0, order_not_shown)
  pub concat_of_hash_as_bag : refusal catalog false (in_ranges h (routed h (2 ∷ [])) []) ≡ None
  pub concat_of_any : refusal catalog true (in_ranges r any v_and_id) ≡ Some (0, order_not_shown)
