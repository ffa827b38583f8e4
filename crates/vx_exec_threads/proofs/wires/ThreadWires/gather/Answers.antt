use Rattle.std.proofs.Common.{inr, ap, sym, subst}
use Rattle.vx_worker.specs.Trace.{idle}
use Rattle.vx_exec_threads.specs.Carrying.{hold_of}
use Rattle.vx_exec_threads.specs.Gathering.{QueuesStay, FillsOne}
use Rattle.vx_exec_threads.proofs.Bearing.{carries-then}
use Rattle.vx_exec_threads.proofs.Queues.{stays-self}
use Rattle.vx_exec_threads.proofs.wires.ThreadWires.gather.Goals as goal

pub returns-in-Refused-clause-does : goal.returns-in-Refused-clause-does
returns-in-Refused-clause-does c = c.wake_consumers.ensures.does

pub returns-in-Ok-clause-does : goal.returns-in-Ok-clause-does
returns-in-Ok-clause-does c =
    carries-then (hold_of c.args.self.now.ends) (hold_of c.wake_consumers.new.self) (hold_of c.gather.new.self) idle c.wake_consumers.ensures.does c.gather.ensures.does

pub returns-in-Err-clause-does : goal.returns-in-Err-clause-does
returns-in-Err-clause-does c =
    carries-then (hold_of c.args.self.now.ends) (hold_of c.wake_consumers.new.self) (hold_of c.gather.new.self) idle c.wake_consumers.ensures.does c.gather.ensures.does

pub returns-in-Ok-clause-still : goal.returns-in-Ok-clause-still
returns-in-Ok-clause-still c = λ e.
    let same = ap (λ v. v.items) c.wake_consumers.ensures.ins in
    subst (λ xs. QueuesStay xs c.gather.new.self.ins.items) same (c.in-Ok.ensures.still e)

pub returns-in-Err-clause-refused : goal.returns-in-Err-clause-refused
returns-in-Err-clause-refused c = λ e.
    let same = ap (λ v. v.items) c.wake_consumers.ensures.ins in
    inr (subst (λ xs. FillsOne xs c.gather.new.self.ins.items) same c.in-Err.ensures.filled)

pub returns-in-Refused-clause-still : goal.returns-in-Refused-clause-still
returns-in-Refused-clause-still c = λ e.
    let same = ap (λ v. v.items) c.wake_consumers.ensures.ins in
    subst (λ xs. QueuesStay c.args.self.now.ends.ins.items xs) (sym same) (stays-self c.args.self.now.ends.ins.items)
