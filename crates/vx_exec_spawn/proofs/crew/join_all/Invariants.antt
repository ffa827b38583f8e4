use Rattle.std.proofs.Common.{◌≡◌, ◌++◌, List}
use Rattle.std.specs.Vec.Iter.{into_iter_items}
use Rattle.vx_exec_spawn.specs.Each.{EachHonest, members_of, AllLent}
use Rattle.vx_exec_spawn.specs.declared.member.CrewMember.{CrewMember}
use Rattle.vx_exec_spawn.proofs.crew.join_all.Given as goal

abbrev pub invariant-loop-handle : goal.invariant-loop-handle
invariant-loop-handle g l =
    (goal.iterator-loop-handle g).can_next l.handle-iterator
    × (goal.iterator-loop-handle g).is_finite l.handle-iterator
    × ((ps : List (CrewMember g.row.O.Denot g.row.S.Denot))
    × EachHonest g.O.Source.Stands g.O.Source.op g.S.Sends.Stands g.S.Sends.task g.S.Sends.post g.S.Sends.bounds (g.R.Router.route_of l.router)
    (g.G.Morsels.morsel_of l.morsels) ps l.all.items
    × (ps ++ members_of (into_iter_items l.handle-iterator) ≡ members_of l.fn.handles.items))
    × AllLent g.R.Router.route_of g.G.Morsels.morsel_of (g.R.Router.route_of l.router) (g.G.Morsels.morsel_of l.morsels)
    (into_iter_items l.handle-iterator)
