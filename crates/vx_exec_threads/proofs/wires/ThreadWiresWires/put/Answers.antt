use Rattle.std.proofs.Common.{subst}
use Rattle.vx_worker.specs.Wiring.{PutGives}
use Rattle.vx_exec_threads.specs.declared.ends.Ends.{Ends}
use Rattle.vx_exec_threads.specs.Carrying.{Does, IsFullAt}
use Rattle.vx_exec_threads.proofs.wires.ThreadWiresWires.put.Goals as goal

pub returns-in-Ok : goal.returns-in-Ok
returns-in-Ok c =
    subst (λ (z : Ends). PutGives Does IsFullAt z c.put-in-Ok.new.self c.args.to c.args.packet c.put-in-Ok.result) c.report.ensures.ends c.put-in-Ok.ensures.gives
