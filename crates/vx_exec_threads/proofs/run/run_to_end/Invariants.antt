use Rattle.vx_worker.specs.Worker.{IsReady}
use Rattle.vx_exec_threads.specs.Carrying.{hold_of}
use Rattle.vx_exec_threads.specs.Ran.{Ran}
use Rattle.vx_exec_threads.proofs.run.run_to_end.Given as goal

abbrev pub invariant-steps : goal.invariant-steps
invariant-steps g l =
    IsReady g.O.Source.types g.S.Sends.post g.S.Sends.is_open g.S.Sends.has_closed (g.G.Morsels.types_of l.morsels) l.worker
    × Ran g.O.Source.Stands g.O.Source.op g.S.Sends.Stands g.S.Sends.task g.S.Sends.post g.S.Sends.bounds (g.R.Router.route_of l.router) (g.G.Morsels.morsel_of l.morsels)
    l.fn.worker (hold_of l.fn.wires.ends) l.worker (hold_of l.wires.ends)
