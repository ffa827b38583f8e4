use Rattle.std.proofs.Common.{ap, sym}
use Rattle.vx_exec_threads.specs.Carrying.{hold_of}
use Rattle.vx_exec_threads.proofs.Running.{ran-one, ran-idle}
use Rattle.vx_exec_threads.proofs.run.step_in_thread.Goals as goal

pub returns-clause-ran : goal.returns-clause-ran
returns-clause-ran g c =
    ran-one g.O.Source.Stands g.O.Source.op g.S.Sends.Stands g.S.Sends.task g.S.Sends.post g.S.Sends.bounds (g.R.Router.route_of c.args.router.now)
    (g.G.Morsels.morsel_of c.args.morsels.now)
    c.args.worker.now c.step-stepped.new.self (hold_of c.args.wires.now.ends) (hold_of c.step-stepped.new.wires.ends)
    (hold_of c.noted.new.self.ends) c.step-stepped.result (ap hold_of (sym c.noted.ensures.ends)) c.step-stepped.ensures.role (
      c.step-stepped.ensures.stands.0,
      c.step-stepped.ensures.stands.1,
      c.step-stepped.ensures.stands.2,
      c.step-stepped.ensures.stands.4,
    )

pub returns-then-matches-clause-ran : goal.returns-then-matches-clause-ran
returns-then-matches-clause-ran g c =
    ran-idle g.O.Source.Stands g.O.Source.op g.S.Sends.Stands g.S.Sends.task g.S.Sends.post g.S.Sends.bounds (g.R.Router.route_of c.args.router.now)
    (g.G.Morsels.morsel_of c.args.morsels.now)
    c.args.worker.now c.step-stepped.new.self (hold_of c.args.wires.now.ends) (hold_of c.noted.new.self.ends) (hold_of c.gather.new.self.ends)
    (ran-one g.O.Source.Stands g.O.Source.op g.S.Sends.Stands g.S.Sends.task g.S.Sends.post g.S.Sends.bounds (g.R.Router.route_of c.args.router.now)
    (g.G.Morsels.morsel_of c.args.morsels.now)
    c.args.worker.now c.step-stepped.new.self (hold_of c.args.wires.now.ends) (hold_of c.step-stepped.new.wires.ends)
    (hold_of c.noted.new.self.ends) c.step-stepped.result (ap hold_of (sym c.noted.ensures.ends)) c.step-stepped.ensures.role (
      c.step-stepped.ensures.stands.0,
      c.step-stepped.ensures.stands.1,
      c.step-stepped.ensures.stands.2,
      c.step-stepped.ensures.stands.4,
    ))
    c.gather.ensures.does

pub returns-clause-stepped : goal.returns-clause-stepped
returns-clause-stepped g c =
    let x = c.step-stepped.ensures.stands in
    record { event = x.0; answer = c.step-stepped.result; counts = x.4; spends = x.5 }

pub returns-then-matches-clause-stepped : goal.returns-then-matches-clause-stepped
returns-then-matches-clause-stepped g c =
    let x = c.step-stepped.ensures.stands in
    record { event = x.0; answer = c.step-stepped.result; counts = x.4; spends = x.5 }
