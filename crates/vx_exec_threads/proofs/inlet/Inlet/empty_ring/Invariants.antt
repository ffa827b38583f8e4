use Rattle.vx_exec_threads.specs.Inlets.{KeepsIn}
use Rattle.vx_exec_threads.proofs.inlet.Inlet.empty_ring.Given as goal

abbrev pub invariant-loop : goal.invariant-loop
invariant-loop l = KeepsIn l.fn.self l.self
