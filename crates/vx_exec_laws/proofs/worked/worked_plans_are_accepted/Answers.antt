use Rattle.std.proofs.Common.{refl}
use Rattle.vx_exec_laws.proofs.worked.worked_plans_are_accepted.Goals as goal

pub returns : goal.returns
returns c = record {
  gathered = refl;
  merged = refl;
  grouped = refl;
  joined = refl;
  on_one_worker = refl;
  counted = refl;
  merge_join = refl;
  every_node = refl;
  its_root = refl;
}
