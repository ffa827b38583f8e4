use Rattle.std.proofs.Common.{◌≡◌, ◌<◌, ◌≤◌, ◌+◌, ◌∙◌, vec_len, length, rules, arith, inl, inr, true}
use Rattle.vx_exec_steps.proofs.Followed.{follows-rounds}
use Rattle.vx_exec_steps.proofs.RunSteps.{advances-then}
use Rattle.vx_exec_steps.proofs.run.step_rounds.Goals as goal

pub returns-then-step_round : goal.returns-then-step_round
returns-then-step_round g c =
    let same : vec_len c.loop-done.workers ≡ length c.args.workers.now.items = search rules in
    let lt : c.loop-done.done < c.args.limit = search rules in
    let yes : c.step_round.result ≡ true = search rules in
    record {
      follows = record {
        count = c.loop-done.done + 1;
        at_most = omega (arith, lt);
        follows = follows-rounds g.O.Source.Stands g.O.Source.want g.O.Source.op g.O.Source.most g.O.Source.idle g.S.Sends.Stands g.S.Sends.task g.S.Sends.post g.S.Sends.bounds g.S.Sends.held g.S.Sends.unclosed (g.R.Router.route_of c.args.router.now) (g.G.Morsels.morsel_of c.args.morsels.now)
            c.loop-done.done (length c.args.workers.now.items) (vec_len c.loop-done.workers) c.args.workers.now.items c.loop-done.workers.items c.step_round.new.workers.items c.args.links.now c.loop-done.links c.step_round.new.links
            same c.loop-done.invariant.follows c.step_round.ensures.follows;
        whole = inr (c.step_round.ensures.ended.0 yes);
      };
      advances = advances-then g.O.Source.Stands g.O.Source.op g.S.Sends.Stands g.S.Sends.task g.S.Sends.post g.S.Sends.bounds (g.R.Router.route_of c.args.router.now) (g.G.Morsels.morsel_of c.args.morsels.now)
          c.args.workers.now.items c.loop-done.workers.items c.step_round.new.workers.items c.args.links.now c.loop-done.links c.step_round.new.links
          c.loop-done.invariant.advances c.step_round.ensures.advances;
    }

pub loop-done-preserved : goal.loop-done-preserved
loop-done-preserved g c =
    let same : vec_len c.loop-done.workers ≡ length c.args.workers.now.items = search rules in
    record {
      ready = c.step_round.ensures.ready;
      len = c.step_round.ensures.len ∙ c.loop-done.invariant.len;
      follows = follows-rounds g.O.Source.Stands g.O.Source.want g.O.Source.op g.O.Source.most g.O.Source.idle g.S.Sends.Stands g.S.Sends.task g.S.Sends.post g.S.Sends.bounds g.S.Sends.held g.S.Sends.unclosed (g.R.Router.route_of c.args.router.now) (g.G.Morsels.morsel_of c.args.morsels.now)
          c.loop-done.done (length c.args.workers.now.items) (vec_len c.loop-done.workers) c.args.workers.now.items c.loop-done.workers.items c.step_round.new.workers.items c.args.links.now c.loop-done.links c.step_round.new.links
          same c.loop-done.invariant.follows c.step_round.ensures.follows;
      advances = advances-then g.O.Source.Stands g.O.Source.op g.S.Sends.Stands g.S.Sends.task g.S.Sends.post g.S.Sends.bounds (g.R.Router.route_of c.args.router.now) (g.G.Morsels.morsel_of c.args.morsels.now)
          c.args.workers.now.items c.loop-done.workers.items c.step_round.new.workers.items c.args.links.now c.loop-done.links c.step_round.new.links
          c.loop-done.invariant.advances c.step_round.ensures.advances;
    }

pub returns-clause-follows : goal.returns-clause-follows
returns-clause-follows g c =
    let at_most : c.loop-done.done ≤ c.args.limit = search rules in
    let all : c.loop-done.done ≡ c.args.limit = search rules in
    record { count = c.loop-done.done; at_most = at_most; follows = c.loop-done.invariant.follows; whole = inl all }
