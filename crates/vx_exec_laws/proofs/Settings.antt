-- What a setting gives to the laws on plans.
use Rattle.vx_check_rules.specs.Claims.{Given}
use Rattle.vx_worker.specs.Fragment.{RunModel, goes, IsSet}
use Rattle.vx_exec_laws.proofs.FormLemmas.{sends-below, sends-rise}

pub set-given : (S : RunModel) → IsSet S → Given S.catalog S.db S.sizes (goes S)
set-given S set = record {
  meets = set.meets;
  some_workers = set.some_workers;
  in_range = sends-below S.hash S.bounds set.in_range;
  rising = sends-rise S.hash S.bounds;
}
