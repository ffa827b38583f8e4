use Rattle.vx_exec_laws.proofs.Frame.{sound-throughout}
use Rattle.vx_exec_laws.proofs.every_claim_holds.Goals as goal

pub returns : goal.returns
returns c = sound-throughout
