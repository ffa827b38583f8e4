use Rattle.std.proofs.Common.{IfOk, List, subst}
use Rattle.vx_exec_spawn.specs.Each.{EachHonest}
use Rattle.vx_exec_spawn.specs.declared.member.CrewMember.{CrewMember}
use Rattle.vx_exec_spawn.proofs.crew.run_in_scope.Goals as goal

pub returns-in-Ok-clause-honest : goal.returns-in-Ok-clause-honest
returns-in-Ok-clause-honest g c =
    let P : List (CrewMember g.row.O.Denot g.row.S.Denot) → Type 0 = λ ms. IfOk c.join_all.result (λ js. EachHonest g.O.Source.Stands g.O.Source.op g.S.Sends.Stands g.S.Sends.task g.S.Sends.post g.S.Sends.bounds (g.R.Router.route_of c.args.shared.router.now) (g.G.Morsels.morsel_of c.args.shared.morsels.now) ms js.items) in
    subst P c.in-Ok.ensures.members c.join_all.ensures.honest
