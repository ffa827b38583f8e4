use Rattle.vx_check_rules.proofs.Exact.{keys-exactly}
use Rattle.vx_check_rules.proofs.laws.keys_exactly.Goals as goal

pub returns : goal.returns
returns c = keys-exactly
