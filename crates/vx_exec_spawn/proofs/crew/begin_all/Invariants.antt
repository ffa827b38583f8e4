use Rattle.std.proofs.Common.{◌≡◌, ◌++◌}
use Rattle.std.specs.Vec.Iter.{into_iter_items}
use Rattle.vx_exec_spawn.specs.Each.{AllReady, members_of, AllLent}
use Rattle.vx_exec_spawn.proofs.crew.begin_all.Given as goal

abbrev pub invariant-loop-member : goal.invariant-loop-member
invariant-loop-member g l =
    (goal.iterator-loop-member g).can_next l.member-iterator
    × (goal.iterator-loop-member g).is_finite l.member-iterator
    × (members_of l.handles.items ++ into_iter_items l.member-iterator ≡ l.fn.members.items)
    × AllLent g.R.Router.route_of g.G.Morsels.morsel_of (g.R.Router.route_of l.shared.router.now) (g.G.Morsels.morsel_of l.shared.morsels.now) l.handles.items
    × AllReady g.O.Source.types g.S.Sends.post g.S.Sends.is_open g.S.Sends.has_closed (g.G.Morsels.types_of l.shared.morsels.now) l.shared.decks.now.items
    (into_iter_items l.member-iterator)
