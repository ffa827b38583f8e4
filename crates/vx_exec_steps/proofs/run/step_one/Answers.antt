use Rattle.std.proofs.Common.{◌<◌, length, rules, sym, subst}
use Rattle.std.proofs.lemmas.List.{get_or-set_same}
use Rattle.vx_exec_steps.specs.Verdicts.{HasEnded}
use Rattle.vx_exec_steps.proofs.RunSteps.{stepped}
use Rattle.vx_exec_steps.proofs.Followed.{one-step}
use Rattle.vx_exec_steps.proofs.run.step_one.Goals as goal

pub returns-clause-follows : goal.returns-clause-follows
returns-clause-follows g c =
    let lt : c.args.number < length c.args.workers.now.items = search rules in
    one-step g.O.Source.Stands g.O.Source.want g.O.Source.op g.O.Source.most g.O.Source.idle g.S.Sends.Stands g.S.Sends.task g.S.Sends.post g.S.Sends.bounds g.S.Sends.held g.S.Sends.unclosed (g.R.Router.route_of c.args.router.now) (g.G.Morsels.morsel_of c.args.morsels.now)
    c.args.workers.now.items c.args.number c.index_mut.result.now c.step.new.self c.args.links.now c.step.new.wires c.step.result
    c.index_mut.ensures.value lt c.step.ensures.role (rw c.serve.ensures at c.step.ensures.stands) c.step.ensures.still

pub returns-clause-advances : goal.returns-clause-advances
returns-clause-advances g c =
    let lt : c.args.number < length c.args.workers.now.items = search rules in
    stepped g.O.Source.Stands g.O.Source.op g.S.Sends.Stands g.S.Sends.task g.S.Sends.post g.S.Sends.bounds (g.R.Router.route_of c.args.router.now) (g.G.Morsels.morsel_of c.args.morsels.now)
    c.args.workers.now.items c.args.number c.index_mut.result.now c.step.new.self c.args.links.now c.step.new.wires
    c.index_mut.ensures.value lt c.step.ensures.role (let x = rw c.serve.ensures at c.step.ensures.stands in (x.0, x.1, x.2))

pub returns-clause-ended : goal.returns-clause-ended
returns-clause-ended g c =
    let lt : c.args.number < length c.args.workers.now.items = search rules in
    let ws = c.args.workers.now.items in
    let n = c.args.number in
    let b = c.step.new.self in (
      λ e d. subst HasEnded (sym (get_or-set_same ws n b d lt)) (c.step.ensures.ended.0 e),
      λ h. c.step.ensures.ended.1 (subst HasEnded (get_or-set_same ws n b b lt) (h b)),
    )
