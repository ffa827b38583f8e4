use Rattle.vx_check_rules.proofs.Exact.{parts-exactly}
use Rattle.vx_check_rules.proofs.laws.parts_exactly.Goals as goal

pub returns : goal.returns
returns c = parts-exactly
