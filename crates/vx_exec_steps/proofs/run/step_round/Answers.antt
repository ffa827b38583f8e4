use Rattle.std.proofs.Common.{◌≡◌, ◌↔◌, ◌∙◌, true, vec_len, length, arith, rules}
use Rattle.vx_exec_steps.specs.Verdicts.{EndsAt}
use Rattle.vx_exec_steps.proofs.Rounds.{flag-more, all-ended}
use Rattle.vx_exec_steps.proofs.Followed.{follows-round}
use Rattle.vx_exec_steps.proofs.RunSteps.{advances-then}
use Rattle.vx_exec_steps.proofs.run.step_round.Goals as goal

pub loop-number-preserved : goal.loop-number-preserved
loop-number-preserved g c =
    let inv = c.loop-number.invariant in
    let new = c.step_one-stepped.new in
    let one = c.step_one-stepped.ensures in
    let here : (c.is_end-all_ended.result ≡ true) ↔ EndsAt new.workers.items c.loop-number.number = (λ e. one.ended.0 (c.is_end-all_ended.ensures.0 e), λ h. c.is_end-all_ended.ensures.1 (one.ended.1 h)) in
    record {
      len = one.len ∙ inv.len;
      flag = flag-more c.loop-number.number c.loop-number.workers.items new.workers.items c.loop-number.all_ended c.is_end-all_ended.result one.others here inv.flag;
      ready = one.ready;
      count = inv.count;
      follows = follows-round g.O.Source.Stands g.O.Source.want g.O.Source.op g.O.Source.most g.O.Source.idle g.S.Sends.Stands g.S.Sends.task g.S.Sends.post g.S.Sends.bounds g.S.Sends.held g.S.Sends.unclosed (g.R.Router.route_of c.args.router.now) (g.G.Morsels.morsel_of c.args.morsels.now) c.loop-number.number c.args.workers.now.items c.loop-number.workers.items new.workers.items c.args.links.now c.loop-number.links new.links inv.follows one.follows.0;
      advances = advances-then g.O.Source.Stands g.O.Source.op g.S.Sends.Stands g.S.Sends.task g.S.Sends.post g.S.Sends.bounds (g.R.Router.route_of c.args.router.now) (g.G.Morsels.morsel_of c.args.morsels.now)
          c.args.workers.now.items c.loop-number.workers.items new.workers.items c.args.links.now c.loop-number.links new.links inv.advances one.advances;
    }

pub returns-clause-ended : goal.returns-clause-ended
returns-clause-ended g c =
    let ws = c.loop-number.workers in
    let n = c.loop-number.number in
    let long : vec_len ws ≡ length ws.items = search rules in
    let same : n ≡ length ws.items = omega (arith, long, c.loop-number-test.false, c.loop-number.auto.number-end, c.loop-number.invariant.len) in
    all-ended ws.items n c.loop-number.all_ended same c.loop-number.invariant.flag
