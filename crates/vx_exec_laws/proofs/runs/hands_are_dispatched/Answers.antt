use Rattle.vx_exec_laws.proofs.Hands.{hands-dispatched}
use Rattle.vx_exec_laws.proofs.runs.hands_are_dispatched.Goals as goal

pub returns : goal.returns
returns c = hands-dispatched
