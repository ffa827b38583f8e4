use Rattle.std.proofs.Common.{rules, ◌≡◌, ap, sym, ◌∙◌, [], ◌∷◌, ◌++◌, append-nil}
use Rattle.std.specs.Vec.Iter.{into_iter_items}
use Rattle.vx_exec_spawn.specs.Each.{members_of}
use Rattle.vx_exec_spawn.proofs.Many.{pushes, lent, ready-rest, ended}
use Rattle.vx_exec_spawn.proofs.crew.begin_all.Goals as goal

pub loop-member-preserved : goal.loop-member-preserved
loop-member-preserved g c =
    let was = c.loop-member.invariant in
    let left = into_iter_items c.loop-member.member-iterator in
    let rest = into_iter_items c.next.new.self in
    let hs = c.loop-member.handles.items in
    let handle = c.in-Some-begin.handle in
    let member = c.in-Some.member in
    let next : left ≡ member ∷ rest = search rules in
    let route = g.R.Router.route_of in
    let morsel = g.G.Morsels.morsel_of in
    let types = g.G.Morsels.types_of c.args.shared.morsels.now in (
      tt,
      tt,
      pushes hs c.push.new.self.items handle member left rest c.args.members.items (search rules) next (search rules) was.2,
      lent route morsel (route c.args.shared.router.now) (morsel c.args.shared.morsels.now) hs c.push.new.self.items handle (search rules) was.3
          (ap route c.in-Some-begin.ensures.1) (ap morsel c.in-Some-begin.ensures.2),
      (ready-rest g.O.Source.types g.S.Sends.post g.S.Sends.is_open g.S.Sends.has_closed types c.args.shared.decks.now.items left rest member next was.4).2,
    )

pub returns-clause-members : goal.returns-clause-members
returns-clause-members g c =
    let left = into_iter_items c.loop-member.member-iterator in
    let hs = c.loop-member.handles.items in
    let none : left ≡ [] = ended left (search rules) in
    sym (append-nil (members_of hs)) ∙ ap (λ z. members_of hs ++ z) (sym none) ∙ c.loop-member.invariant.2
