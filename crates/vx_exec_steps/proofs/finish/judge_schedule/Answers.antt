use Rattle.std.proofs.Common.{◌≡◌, length, subst, arith, le_refl}
use Rattle.std.specs.Vec.{vec_len}
use Rattle.vx_exec_layout.specs.Needed.{rounds_needed}
use Rattle.vx_exec_steps.specs.Schedules.{HoldsRounds}
use Rattle.vx_exec_steps.specs.Verdicts.{Judged}
use Rattle.vx_exec_steps.proofs.Answered.{is-worth}
use Rattle.vx_exec_steps.proofs.Sufficient.{schedule-ends, not-unfinished}
use Rattle.vx_exec_steps.proofs.finish.judge_schedule.Goals as goal

pub returns : goal.returns
returns g c =
    let steps = c.step_schedule.ensures.advances in
    let judged = subst (λ z. Judged z c.judge.result) c.as_slice.ensures.value c.judge.ensures in
    let worth = is-worth g.O.Source.Stands g.O.Source.op g.S.Sends.Stands g.S.Sends.task g.S.Sends.post g.S.Sends.bounds (g.R.Router.route_of c.args.router.now) (g.G.Morsels.morsel_of c.args.morsels.now)
    c.args.workers.now.items c.step_schedule.new.workers.items c.args.links.now c.step_schedule.new.links g.met.S.Sends.at_post steps
    c.judge.result judged
    in
    record {
      follows = c.step_schedule.ensures.follows;
      roles = steps.roles;
      judged = worth.judged;
      settled = worth.settled;
      answers = worth.answers;
      first = worth.first;
      ends = λ W is_total p accepted ready rested holds.
          let ok = c.args.workers.now.ok in
          let same : vec_len c.args.workers.now ≡ length c.args.workers.now.items = omega (arith, ok) in
          not-unfinished c.step_schedule.new.workers.items c.judge.result judged
          (schedule-ends g.O.Source.Stands g.O.Source.want g.O.Source.op g.O.Source.most g.O.Source.idle g.S.Sends.Stands g.S.Sends.task g.S.Sends.post g.S.Sends.bounds g.S.Sends.held g.S.Sends.unclosed
          (g.R.Router.route_of c.args.router.now) (g.G.Morsels.morsel_of c.args.morsels.now) g.met.S.Sends.at_post g.met.S.Sends.streams W p accepted.set accepted.fit
          c.args.workers.now.items c.args.links.now ready rested (rounds_needed W.db W.sizes p) c.args.steps.now c.step_schedule.new.workers.items c.step_schedule.new.links
          (subst (λ n. HoldsRounds (rounds_needed W.db W.sizes p) n c.args.steps.now) same holds) c.step_schedule.ensures.follows (le_refl (rounds_needed W.db W.sizes p)));
    }
