use Rattle.std.proofs.Common.{refl}
use Rattle.vx_exec_laws.proofs.worked.worked_limits_compute.Goals as goal

pub returns : goal.returns
returns c = record {
  semi_accepted = refl;
  anti_accepted = refl;
  semi_by_hashes = refl;
  typed_semi = refl;
  untyped_semi = refl;
  left_on_each = refl;
  left_of_anti = refl;
  left_of_join = refl;
  route_of_right = refl;
  route_of_joined = refl;
  matched = refl;
  unmatched = refl;
  matched_small = refl;
  unmatched_small = refl;
  limit_accepted = refl;
  typed_limit = refl;
  limit_untold = refl;
  limit_told_by_input = refl;
  limit_spread = refl;
  one_row_at_most = refl;
  two_rows = refl;
  first_two = refl;
  first_none = refl;
  first_all = refl;
  erased_limit = refl;
}
