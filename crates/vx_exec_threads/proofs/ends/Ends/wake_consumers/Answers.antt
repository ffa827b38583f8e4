use Rattle.vx_exec_threads.specs.Carrying.{hold_of}
use Rattle.vx_exec_threads.proofs.Bearing.{carries-idle}
use Rattle.vx_exec_threads.proofs.ends.Ends.wake_consumers.Goals as goal

pub returns-clause-does : goal.returns-clause-does
returns-clause-does c = carries-idle (hold_of c.args.self.now)
