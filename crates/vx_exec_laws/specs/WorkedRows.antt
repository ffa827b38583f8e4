-- What the rule table says of the worked plans, and what they mean: each fact holds by computing.
use Rattle.std.specs.Prelude.{◌≡◌, true, false, [], ◌∷◌, ◌++◌, Some, None}
use Rattle.vx_rows_values.specs.Values.{text}
use Rattle.vx_rows_values.specs.Keys.{first_clash, is_key}
use Rattle.vx_plan_nodes.specs.Plan.{one, any, all, routed}
use Rattle.vx_plan_nodes.specs.Serial.{rows, overflow, serial}
use Rattle.vx_rows_values.specs.Order.{rising, sort_on}
use Rattle.vx_plan_nodes.specs.Erase.{erase}
use Rattle.vx_plan_nodes.specs.Routes.{range_consumer}
use Rattle.vx_plan_nodes.specs.Typed.{typed, is_range}
use Rattle.vx_plan_nodes.specs.Numbering.{nodes}
use Rattle.vx_exchange_ends.specs.Rounds.{in_turn}
use Rattle.vx_worker.specs.Morsels.{morsel_count, morsel_of}
use Rattle.vx_check_rules.specs.Rules.{allowed, root_allowed}
use Rattle.vx_check_rules.specs.Refusal.{size_mismatch, root_not_one, part_not_shown, inputs_not_matched, replicated_input, order_not_shown, order_needed, key_not_shown, total_not_shown, refusal}
use Rattle.vx_exec_laws.specs.WorkedPlans.{t_and_d, h, h2, claimed, part_only, first, first_key, by_first, shared_t, select_gathered, select_merged, sums_over, h_sorted, h_grouped, t_by_k, h_on_k, sums_by_hash, sums_unrouted, join_broadcast, t_with_d, replica_gathered, join_unlike, union_mixed, union_two_sizes, round_replicated, join_off_key, text_summed, union_unlike, worked_scope, sums_with_d, rows_counted, merge_joined, d_sorted, d_unsorted, v_falls, one_row, a, b, c, n, minus_2, t_rows, db, empty_db, large, minus_1_row}

-- plans that are accepted
pub record AreAccepted : Type 0 where
  pub gathered : refusal t_and_d false (select_gathered any) ≡ None
  pub merged : refusal t_and_d true (select_merged by_first by_first first_key) ≡ None
  pub grouped : refusal t_and_d true sums_by_hash ≡ None
  pub joined : refusal t_and_d true t_with_d ≡ None
  pub on_one_worker : refusal t_and_d false sums_with_d ≡ None
  pub counted : refusal t_and_d false rows_counted ≡ None
  pub merge_join : refusal t_and_d true (merge_joined by_first d_sorted) ≡ None
  pub every_node : allowed t_and_d sums_by_hash ≡ true
  pub its_root : root_allowed t_and_d true sums_by_hash ≡ true

-- plans that are refused: the node, and the first test that fails there
pub record AreRefused : Type 0 where
  pub sizes_differ : refusal t_and_d false union_two_sizes ≡ Some (1, size_mismatch)
  pub many_at_root : refusal t_and_d false (shared_t 0 (part_only any)) ≡ Some (0, root_not_one)
  pub one_claimed_of_many : refusal t_and_d false (select_gathered one) ≡ Some (1, part_not_shown)
  pub wrong_route_at_group : refusal t_and_d true (sums_over h_sorted (claimed (routed h2 first) [] first_key) (t_by_k h_on_k (part_only any))) ≡ Some (2, part_not_shown)
  pub all_claimed_of_hash : refusal t_and_d true (sums_over h_sorted h_grouped (t_by_k (part_only all) (part_only any))) ≡ Some (3, part_not_shown)
  pub any_claimed_of_broadcast : refusal t_and_d true (join_broadcast (claimed one by_first first_key) (claimed any by_first first_key) (claimed any [] first_key) (claimed any [] first_key)) ≡ Some (3, part_not_shown)
  pub group_unrouted : refusal t_and_d true sums_unrouted ≡ Some (2, inputs_not_matched)
  pub routes_unlike : refusal t_and_d false join_unlike ≡ Some (1, inputs_not_matched)
  pub replicas_in_union : refusal t_and_d false union_mixed ≡ Some (1, inputs_not_matched)
  pub replicas_gathered : refusal t_and_d false replica_gathered ≡ Some (0, replicated_input)
  pub wrong_scan_order : refusal t_and_d true (select_merged by_first (rising (1 ∷ [])) first_key) ≡ Some (2, order_not_shown)
  pub wrong_sort_order : refusal t_and_d true (sums_over (claimed (routed h first) (rising (1 ∷ [])) first_key) h_grouped (t_by_k h_on_k (part_only any))) ≡ Some (1, order_not_shown)
  pub gather_without_merge : refusal t_and_d true (select_merged [] by_first first_key) ≡ Some (0, order_not_shown)
  pub first_node_counts : refusal t_and_d true (sums_over h_sorted (claimed (routed h first) [] ((1 ∷ []) ∷ [])) (t_by_k h_on_k (claimed any (rising (1 ∷ [])) []))) ≡ Some (4, order_not_shown)
  pub first_test_counts : refusal t_and_d true (sums_over h_sorted (claimed (routed h2 first) [] ((1 ∷ []) ∷ [])) (t_by_k h_on_k (part_only any))) ≡ Some (2, part_not_shown)
  pub merge_of_unsorted : refusal t_and_d true (sums_over (claimed (routed h first) [] first_key) h_grouped (t_by_k h_on_k (part_only any))) ≡ Some (0, order_needed)
  pub join_of_unsorted : refusal t_and_d true (merge_joined by_first d_unsorted) ≡ Some (0, order_needed)
  pub key_of_join : refusal t_and_d true (join_broadcast (claimed one by_first first_key) (claimed any by_first ((1 ∷ []) ∷ [])) (claimed all [] first_key) (claimed any [] first_key)) ≡ Some (1, key_not_shown)
  pub key_of_scan : refusal t_and_d true (join_broadcast (claimed one by_first first_key) (claimed any by_first first_key) (claimed all [] first_key) (claimed any [] ((1 ∷ []) ∷ []))) ≡ Some (4, key_not_shown)
  pub key_of_group : refusal t_and_d true (sums_over h_sorted (claimed (routed h first) [] ((1 ∷ []) ∷ [])) (t_by_k h_on_k (part_only any))) ≡ Some (2, key_not_shown)
  pub replicas_of_round : refusal t_and_d false round_replicated ≡ Some (1, part_not_shown)
  pub key_without_pairing : refusal t_and_d false join_off_key ≡ Some (1, key_not_shown)
  pub total_without_key : refusal t_and_d true (select_merged by_first by_first []) ≡ Some (0, total_not_shown)
  pub total_without_order : refusal t_and_d true (join_broadcast (claimed one [] first_key) (claimed any by_first first_key) (claimed all [] first_key) (claimed any [] first_key)) ≡ Some (0, total_not_shown)

-- the serial rows of plans, or the node at which they overflow
pub record HaveSerialRows : Type 0 where
  pub selected : serial db (select_gathered any) ≡ rows (one_row (n 1) b (n 7) ∷ one_row (n 3) c (n 7) ∷ [])
  pub of_nothing : serial empty_db (select_merged by_first by_first first_key) ≡ rows []
  pub sums : serial db sums_by_hash ≡ rows ((a ∷ n 3 ∷ []) ∷ (b ∷ n 7 ∷ []) ∷ (c ∷ n 7 ∷ []) ∷ [])
  pub large_sum : serial (large minus_1_row) sums_by_hash ≡ rows ((a ∷ n 9223372036854775807 ∷ []) ∷ [])
  pub too_large_sum : serial (large []) sums_by_hash ≡ overflow 2
  pub too_large_erased : serial (large []) (erase sums_by_hash) ≡ overflow 1
  pub joined : serial db t_with_d ≡ rows ((one_row (n 0) a (n 5) ++ a ∷ n 10 ∷ []) ∷ (one_row (n 1) b (n 7) ++ b ∷ n 20 ∷ []) ∷ (one_row (n 2) a minus_2 ++ a ∷ n 10 ∷ []) ∷ [])
  pub merge_joined : serial db (merge_joined by_first d_sorted) ≡ rows ((one_row (n 0) a (n 5) ++ a ∷ n 10 ∷ []) ∷ (one_row (n 2) a minus_2 ++ a ∷ n 10 ∷ []) ∷ (one_row (n 1) b (n 7) ++ b ∷ n 20 ∷ []) ∷ [])
  pub overflow_before_empty_right : serial (large []) sums_with_d ≡ overflow 1
  pub joined_with_nothing : serial (large minus_1_row) sums_with_d ≡ rows []
  pub counted_nothing : serial empty_db rows_counted ≡ rows []
  pub counted : serial db rows_counted ≡ rows ((n 4 ∷ []) ∷ [])
  pub stable : sort_on (rising (1 ∷ [])) t_rows ≡ one_row (n 0) a (n 5) ∷ one_row (n 2) a minus_2 ∷ one_row (n 1) b (n 7) ∷ one_row (n 3) c (n 7) ∷ []
  pub falling : sort_on v_falls t_rows ≡ one_row (n 1) b (n 7) ∷ one_row (n 3) c (n 7) ∷ one_row (n 0) a (n 5) ∷ one_row (n 2) a minus_2 ∷ []
  pub falling_then_rising : sort_on (v_falls ++ by_first) t_rows ≡ one_row (n 1) b (n 7) ∷ one_row (n 3) c (n 7) ∷ one_row (n 0) a (n 5) ∷ one_row (n 2) a minus_2 ∷ []

-- plans that are typed, and plans that are not; ranges with the bounds 2 and 10; clashes; round robin; morsels
pub record HaveForms : Type 0 where
  pub typed_sums : typed worked_scope sums_by_hash ≡ true
  pub typed_join : typed worked_scope t_with_d ≡ true
  pub untyped_sum : typed worked_scope text_summed ≡ false
  pub untyped_union : typed worked_scope union_unlike ≡ false
  pub a_range : is_range (n 2 ∷ n 10 ∷ []) ≡ true
  pub no_range : is_range (n 10 ∷ n 2 ∷ []) ≡ false
  pub erased_nodes : nodes (erase sums_by_hash) ≡ 3
  pub second_in_turn : in_turn 0 3 1 t_rows ≡ one_row (n 1) b (n 7) ∷ []
  pub ten_morsels : morsel_count 1024 10000 ≡ 10
  pub short_morsel : morsel_of 3 t_rows 1 ≡ one_row (n 3) c (n 7) ∷ []
  pub below_all : range_consumer (n 2 ∷ n 10 ∷ []) (n 1) 2 ≡ 0
  pub at_first : range_consumer (n 2 ∷ n 10 ∷ []) (n 2) 2 ≡ 1
  pub past_last_consumer : range_consumer (n 2 ∷ n 10 ∷ []) (n 10) 2 ≡ 1
  pub of_three_below : range_consumer (n 2 ∷ n 10 ∷ []) (n 1) 3 ≡ 0
  pub of_three_between : range_consumer (n 2 ∷ n 10 ∷ []) (n 9) 3 ≡ 1
  pub of_three_above : range_consumer (n 2 ∷ n 10 ∷ []) (n 10) 3 ≡ 2
  pub is_a_key : is_key first t_rows ≡ true
  pub no_clash : first_clash first t_rows ≡ None
  pub clash : first_clash first (t_rows ++ one_row (n 0) (text (122 ∷ [])) (n 1) ∷ []) ≡ Some (0, 4)
  pub clash_of_two : first_clash (1 ∷ []) t_rows ≡ Some (0, 2)
