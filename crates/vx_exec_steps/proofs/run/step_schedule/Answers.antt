use Rattle.std.proofs.Common.{◌∙◌}
use Rattle.vx_exec_steps.proofs.Followed.{follows-advances, follows-at, follows-whole}
use Rattle.vx_exec_steps.proofs.run.step_schedule.Goals as goal

pub loop-step-preserved : goal.loop-step-preserved
loop-step-preserved g c =
    let inv = c.loop-step.invariant in
    let new = c.step_one.new in
    let one = c.step_one.ensures in
    record {
      len = one.len ∙ inv.len;
      ready = one.ready;
      follows = follows-at g.O.Source.Stands g.O.Source.want g.O.Source.op g.O.Source.most g.O.Source.idle g.S.Sends.Stands g.S.Sends.task g.S.Sends.post g.S.Sends.bounds g.S.Sends.held g.S.Sends.unclosed (g.R.Router.route_of c.args.router.now) (g.G.Morsels.morsel_of c.args.morsels.now)
          c.args.steps.now c.loop-step.step-index 0 c.args.workers.now.items c.loop-step.workers.items new.workers.items c.args.links.now c.loop-step.links new.links
          c.loop-step-test.true inv.follows one.follows.0;
    }

pub returns-clause-follows : goal.returns-clause-follows
returns-clause-follows g c =
    follows-whole g.O.Source.Stands g.O.Source.want g.O.Source.op g.O.Source.most g.O.Source.idle g.S.Sends.Stands g.S.Sends.task g.S.Sends.post g.S.Sends.bounds g.S.Sends.held g.S.Sends.unclosed (g.R.Router.route_of c.args.router.now) (g.G.Morsels.morsel_of c.args.morsels.now)
    c.args.steps.now c.loop-step.step-index c.args.workers.now.items c.loop-step.workers.items c.args.links.now c.loop-step.links c.loop-step-test.false c.loop-step.invariant.follows

pub returns-clause-advances : goal.returns-clause-advances
returns-clause-advances g c =
    follows-advances g.O.Source.Stands g.O.Source.want g.O.Source.op g.O.Source.most g.O.Source.idle g.S.Sends.Stands g.S.Sends.task g.S.Sends.post g.S.Sends.bounds g.S.Sends.held g.S.Sends.unclosed (g.R.Router.route_of c.args.router.now) (g.G.Morsels.morsel_of c.args.morsels.now)
    c.args.steps.now c.args.workers.now.items c.loop-step.workers.items c.args.links.now c.loop-step.links
    (follows-whole g.O.Source.Stands g.O.Source.want g.O.Source.op g.O.Source.most g.O.Source.idle g.S.Sends.Stands g.S.Sends.task g.S.Sends.post g.S.Sends.bounds g.S.Sends.held g.S.Sends.unclosed (g.R.Router.route_of c.args.router.now) (g.G.Morsels.morsel_of c.args.morsels.now)
    c.args.steps.now c.loop-step.step-index c.args.workers.now.items c.loop-step.workers.items c.args.links.now c.loop-step.links c.loop-step-test.false c.loop-step.invariant.follows)
