use Rattle.vx_exec_runs.proofs.UnderFacts.{setup-stays}
use Rattle.vx_exec_runs.proofs.laws.setup_stays.Goals as goal

pub returns : goal.returns
returns c = setup-stays
