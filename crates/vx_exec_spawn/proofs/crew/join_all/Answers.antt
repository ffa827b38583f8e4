use Rattle.std.proofs.Common.{rules, ◌≡◌, ◌∷◌, ◌++◌, []}
use Rattle.std.specs.Vec.Iter.{into_iter_items}
use Rattle.vx_exec_spawn.specs.Each.{members_of}
use Rattle.vx_exec_spawn.proofs.Many.{joins, lent-rest, moves-on}
use Rattle.vx_exec_spawn.proofs.crew.join_all.Goals as goal

pub loop-handle-preserved : goal.loop-handle-preserved
loop-handle-preserved g c =
    let was = c.loop-handle.invariant in
    let hs = into_iter_items c.loop-handle.handle-iterator in
    let rest = into_iter_items c.next.new.self in
    let h = c.in-Some.handle in
    let next : hs ≡ h ∷ rest = search rules in
    let route = g.R.Router.route_of in
    let morsel = g.G.Morsels.morsel_of in
    let hash = route c.args.router.now in
    let m = morsel c.args.morsels.now in
    let member = h.promise.member.value in
    let r = lent-rest route morsel hash m hs rest h next was.3 in (
      tt,
      tt,
      (
        was.2.0 ++ member ∷ [],
        joins g.O.Source.Stands g.O.Source.op g.S.Sends.Stands g.S.Sends.task g.S.Sends.post g.S.Sends.bounds hash m
            (route h.promise.router.now) (morsel h.promise.morsels.now) was.2.0 c.loop-handle.all.items c.push.new.self.items member
            c.in-Some-join.joined (search rules) r.0 r.1 was.2.1 c.in-Some-join.ensures,
        moves-on was.2.0 hs rest h (members_of c.args.handles.items) next was.2.2,
      ),
      r.2,
    )
