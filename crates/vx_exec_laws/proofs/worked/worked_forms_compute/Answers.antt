use Rattle.std.proofs.Common.{refl}
use Rattle.vx_exec_laws.proofs.worked.worked_forms_compute.Goals as goal

pub returns : goal.returns
returns c = record {
  typed_sums = refl;
  typed_join = refl;
  untyped_sum = refl;
  untyped_union = refl;
  a_range = refl;
  no_range = refl;
  erased_nodes = refl;
  second_in_turn = refl;
  ten_morsels = refl;
  short_morsel = refl;
  below_all = refl;
  at_first = refl;
  past_last_consumer = refl;
  of_three_below = refl;
  of_three_between = refl;
  of_three_above = refl;
  is_a_key = refl;
  no_clash = refl;
  clash = refl;
  clash_of_two = refl;
}
