use Rattle.std.proofs.Common.{refl}
use Rattle.vx_exec_laws.proofs.worked.worked_functions_compute.Goals as goal

pub returns : goal.returns
returns c = record {
  accepted = refl;
  typed_project = refl;
  order_computed = refl;
  key_computed = refl;
  key_and_more = refl;
  typed_select = refl;
  untyped_select = refl;
  known = refl;
  of_a_text = refl;
  unknown = refl;
  typed_unknown = refl;
  added = refl;
  doubled = refl;
  chosen = refl;
  overflows = refl;
  overflows_erased = refl;
  not_chosen = refl;
  none_chosen = refl;
  not_guarded = refl;
  of_no_rows = refl;
}
