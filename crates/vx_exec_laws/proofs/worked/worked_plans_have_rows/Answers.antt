use Rattle.std.proofs.Common.{refl}
use Rattle.vx_exec_laws.proofs.worked.worked_plans_have_rows.Goals as goal

pub returns : goal.returns
returns c = record {
  selected = refl;
  of_nothing = refl;
  sums = refl;
  large_sum = refl;
  too_large_sum = refl;
  too_large_erased = refl;
  joined = refl;
  merge_joined = refl;
  overflow_before_empty_right = refl;
  joined_with_nothing = refl;
  counted_nothing = refl;
  counted = refl;
  stable = refl;
  falling = refl;
  falling_then_rising = refl;
}
