use Rattle.std.proofs.Common.{refl}
use Rattle.vx_exec_threads.specs.Carrying.{hold_of}
use Rattle.vx_exec_threads.proofs.Bearing.{carries-idle}
use Rattle.vx_exec_threads.proofs.wires.ThreadWires.report.Goals as goal

pub returns-in-Refused-clause-does : goal.returns-in-Refused-clause-does
returns-in-Refused-clause-does c = carries-idle (hold_of c.args.self.now.ends)

pub returns-in-There : goal.returns-in-There
returns-in-There c = record { ends = refl; does = carries-idle (hold_of c.args.self.now.ends); reported = tt }
