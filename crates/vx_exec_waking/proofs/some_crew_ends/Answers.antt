use Rattle.vx_exec_waking.proofs.Ending.{some-crew-ends}
use Rattle.vx_exec_waking.proofs.some_crew_ends.Goals as goal

pub returns : goal.returns
returns c = some-crew-ends
