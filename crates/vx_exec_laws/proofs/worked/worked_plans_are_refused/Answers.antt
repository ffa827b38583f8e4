use Rattle.std.proofs.Common.{refl}
use Rattle.vx_exec_laws.proofs.worked.worked_plans_are_refused.Goals as goal

pub returns : goal.returns
returns c = record {
  sizes_differ = refl;
  many_at_root = refl;
  one_claimed_of_many = refl;
  wrong_route_at_group = refl;
  all_claimed_of_hash = refl;
  any_claimed_of_broadcast = refl;
  group_unrouted = refl;
  routes_unlike = refl;
  replicas_in_union = refl;
  replicas_gathered = refl;
  wrong_scan_order = refl;
  wrong_sort_order = refl;
  gather_without_merge = refl;
  first_node_counts = refl;
  first_test_counts = refl;
  merge_of_unsorted = refl;
  join_of_unsorted = refl;
  key_of_join = refl;
  key_of_scan = refl;
  key_of_group = refl;
  replicas_of_round = refl;
  key_without_pairing = refl;
  total_without_key = refl;
  total_without_order = refl;
}
