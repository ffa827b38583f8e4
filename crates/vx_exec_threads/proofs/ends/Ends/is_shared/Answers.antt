use Rattle.std.proofs.Common.{rules, ◌≡◌, ◌↔◌, true, Some, slice_get, sym, subst, ap, ◌∙◌}
use Rattle.std.proofs.lemmas.Option.{slice_get_read, slice_get_within, get_or_from_slice_get}
use Rattle.vx_exec_threads.specs.Drawers.{IsSeat}
use Rattle.vx_exec_threads.specs.declared.drawer.Drawer.{Drawer}
use Rattle.vx_exec_threads.specs.Carrying.{hold_of}
use Rattle.vx_exec_threads.proofs.Bearing.{one-drawer}
use Rattle.vx_exec_threads.proofs.ends.Ends.is_shared.Goals as goal

pub returns-in-None : goal.returns-in-None
returns-in-None c = λ apart k x at e.
    let items = c.args.self.now.draws.items in
    absurd (subst (λ (y : Drawer). y.scan ≡ c.args.scan → ⊥) (get_or_from_slice_get items k x x at) (c.in-None.ensures.none k x (slice_get_within items k x at)) e)

pub returns-in-Some : goal.returns-in-Some
returns-in-Some c = λ apart k x at e.
    let draws = c.args.self.now.draws in
    let z = c.index.result.now in
    let there : slice_get draws.items c.in-Some.k ≡ Some z = slice_get_read draws.items draws.len c.in-Some.k z (search rules) (search rules) c.index.ensures in
    let scan : z.scan ≡ c.args.scan = ap (λ (y : Drawer). y.scan) c.index.ensures ∙ c.in-Some.ensures.some.1 z in
    subst (λ (y : Drawer). (c.is_shared.result ≡ true) ↔ IsSeat y.dealer) (one-drawer (hold_of c.args.self.now) apart k c.in-Some.k x z at there (e ∙ sym scan)) c.is_shared.ensures
