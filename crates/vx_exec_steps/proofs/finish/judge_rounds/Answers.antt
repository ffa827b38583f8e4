use Rattle.std.proofs.Common.{subst}
use Rattle.vx_exec_steps.specs.Verdicts.{Judged}
use Rattle.vx_exec_steps.proofs.Answered.{is-worth}
use Rattle.vx_exec_steps.proofs.Sufficient.{rounds-end, not-unfinished}
use Rattle.vx_exec_steps.proofs.finish.judge_rounds.Goals as goal

pub returns : goal.returns
returns g c =
    let steps = c.step_rounds.ensures.advances in
    let judged = subst (λ z. Judged z c.judge.result) c.as_slice.ensures.value c.judge.ensures in
    let worth = is-worth g.O.Source.Stands g.O.Source.op g.S.Sends.Stands g.S.Sends.task g.S.Sends.post g.S.Sends.bounds (g.R.Router.route_of c.args.router.now) (g.G.Morsels.morsel_of c.args.morsels.now)
    c.args.workers.now.items c.step_rounds.new.workers.items c.args.links.now c.step_rounds.new.links g.met.S.Sends.at_post steps
    c.judge.result judged
    in
    record {
      follows = c.step_rounds.ensures.follows;
      roles = steps.roles;
      judged = worth.judged;
      settled = worth.settled;
      answers = worth.answers;
      first = worth.first;
      ends = λ W is_total p accepted ready rested enough.
          not-unfinished c.step_rounds.new.workers.items c.judge.result judged
          (rounds-end g.O.Source.Stands g.O.Source.want g.O.Source.op g.O.Source.most g.O.Source.idle g.S.Sends.Stands g.S.Sends.task g.S.Sends.post g.S.Sends.bounds g.S.Sends.held g.S.Sends.unclosed
          (g.R.Router.route_of c.args.router.now) (g.G.Morsels.morsel_of c.args.morsels.now) g.met.S.Sends.at_post g.met.S.Sends.streams W p accepted.set accepted.fit
          c.args.workers.now.items c.args.links.now ready rested c.args.limit c.step_rounds.new.workers.items c.step_rounds.new.links c.step_rounds.ensures.follows enough);
    }
