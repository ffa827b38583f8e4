use Rattle.std.proofs.Common.{subst, sym}
use Rattle.vx_exec_threads.specs.Carrying.{hold_of}
use Rattle.vx_exec_threads.specs.Ran.{Ran}
use Rattle.vx_exec_threads.specs.declared.ends.Ends.{Ends}
use Rattle.vx_exec_threads.proofs.Running.{ran-self, ran-then}
use Rattle.vx_exec_threads.proofs.run.run_to_end.Goals as goal

pub steps-init : goal.steps-init
steps-init g c = (
  c.requires.ready,
  ran-self g.O.Source.Stands g.O.Source.op g.S.Sends.Stands g.S.Sends.task g.S.Sends.post g.S.Sends.bounds
      (g.R.Router.route_of c.args.router.now) (g.G.Morsels.morsel_of c.args.morsels.now) c.args.worker (hold_of c.args.wires.ends),
)

pub steps-preserved : goal.steps-preserved
steps-preserved g c = (
  c.step_in_thread.ensures.ready,
  ran-then g.O.Source.Stands g.O.Source.op g.S.Sends.Stands g.S.Sends.task g.S.Sends.post g.S.Sends.bounds (g.R.Router.route_of c.args.router.now)
      (g.G.Morsels.morsel_of c.args.morsels.now)
      c.args.worker c.steps.worker c.step_in_thread.new.worker (hold_of c.args.wires.ends) (hold_of c.steps.wires.ends)
      (hold_of c.step_in_thread.new.wires.ends) c.steps.invariant.1 c.step_in_thread.ensures.ran,
)

pub returns-in-Ended-clause-ran : goal.returns-in-Ended-clause-ran
returns-in-Ended-clause-ran g c =
    subst (λ (z : Ends). Ran g.O.Source.Stands g.O.Source.op g.S.Sends.Stands g.S.Sends.task g.S.Sends.post g.S.Sends.bounds
    (g.R.Router.route_of c.args.router.now) (g.G.Morsels.morsel_of c.args.morsels.now) c.args.worker (hold_of c.args.wires.ends) c.step_in_thread.new.worker (hold_of z))
    (sym c.into_ends.ensures)
    (ran-then g.O.Source.Stands g.O.Source.op g.S.Sends.Stands g.S.Sends.task g.S.Sends.post g.S.Sends.bounds
    (g.R.Router.route_of c.args.router.now) (g.G.Morsels.morsel_of c.args.morsels.now)
    c.args.worker c.steps.worker c.step_in_thread.new.worker (hold_of c.args.wires.ends) (hold_of c.steps.wires.ends)
    (hold_of c.step_in_thread.new.wires.ends) c.steps.invariant.1 c.step_in_thread.ensures.ran)
