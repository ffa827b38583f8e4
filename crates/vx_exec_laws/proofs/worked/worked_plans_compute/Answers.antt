use Rattle.std.proofs.Common.{refl}
use Rattle.vx_exec_laws.proofs.worked.worked_plans_compute.Goals as goal

pub returns : goal.returns
returns c = record {
  accepted = refl;
  counts_accepted = refl;
  counted_accepted = refl;
  typed_two_phase = refl;
  typed_counting = refl;
  unrouted = refl;
  key_of_partial = refl;
  key_of_exchange = refl;
  merging_accepted = refl;
  typed_merging = refl;
  key_of_sort = refl;
  order_of_sort = refl;
  partial_at_root = refl;
  no_partial = refl;
  no_exchange = refl;
  sorted_on_sums = refl;
  parts_counted = refl;
  means = refl;
  erased_means = refl;
  erased_is = refl;
  merging_means = refl;
  erased_merging = refl;
  counts = refl;
  all_counted = refl;
  none_counted = refl;
  part_overflows = refl;
  whole_fits = refl;
  final_adds = refl;
  final_overflows = refl;
  concat_accepted = refl;
  concat_typed = refl;
  concat_of_hash = refl;
  concat_of_hash_as_bag = refl;
  concat_of_any = refl;
}
