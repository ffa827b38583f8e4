use Rattle.std.proofs.Common.{◌≡◌, Some, slice_get, refl, sym, ap, ◌∙◌, subst, Vec, Global}
use Rattle.std.proofs.lemmas.Option.{get_or_from_slice_get}
use Rattle.std.specs.Vec.{with_item}
use Rattle.vx_exec_threads.specs.declared.drawer.Drawer.{Drawer}
use Rattle.vx_exec_threads.specs.declared.drawer.Dealer.TheVariants as dealer
use Rattle.vx_exec_assembly.proofs.SeatsTaken.{remains-set}
use Rattle.vx_exec_assembly.proofs.seats.take_at.Goals as goal

pub returns-clause-remains : goal.returns-clause-remains
returns-clause-remains c =
    let xs = c.args.draws.now.items in
    let l = c.index_mut.result.now in
    let x = c.index_mut-2.result.now in
    let h = c.requires.1 in
    let lz : l ≡ h.1.list = c.index_mut.ensures.value ∙ get_or_from_slice_get xs c.args.worker h.1.list l h.1.outer in
    let at : slice_get xs c.args.worker ≡ Some l = h.1.outer ∙ ap Some (sym lz) in
    let inn : slice_get l.items c.args.place ≡ Some h.0 =
    subst (λ (v : Vec Drawer Global). slice_get v.items c.args.place ≡ Some h.0) (sym lz) h.1.inner in
    let xz : x ≡ h.0 = c.index_mut-2.ensures.value ∙ get_or_from_slice_get l.items c.args.place h.0 x inn in
    let here : slice_get l.items c.args.place ≡ Some x = inn ∙ ap Some (sym xz) in
    let seat : x.dealer ≡ dealer.Seat c.args.number c.requires.0 = ap (λ (v : Drawer). v.dealer) xz ∙ h.2 in
    remains-set xs c.args.worker c.args.place c.args.number c.requires.0 l (with_item l c.args.place c.take_dealer.new.self) x c.take_dealer.new.self
    at here refl seat c.take_dealer.ensures.scan
