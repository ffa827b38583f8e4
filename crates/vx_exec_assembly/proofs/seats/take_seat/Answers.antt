use Rattle.std.proofs.Common.{◌≡◌, Vec, Global, ap, ◌∙◌}
use Rattle.std.proofs.lemmas.Option.{get_or_from_slice_get}
use Rattle.vx_exec_threads.specs.declared.drawer.Drawer.{Drawer}
use Rattle.vx_exec_assembly.proofs.SeatsTaken.{found-seat, found-draw}
use Rattle.vx_exec_assembly.proofs.seats.take_seat.Goals as goal

pub take_at-requires : goal.take_at-requires
take_at-requires c =
    let xs = c.args.draws.now.items in
    let s = c.requires.held.0 in
    let h = c.requires.held.1 in
    let list : c.index.result.now ≡ h.2.list = c.index.ensures ∙ get_or_from_slice_get xs c.args.worker h.2.list c.index.result.now h.2.outer in
    let items : c.as_slice.result.now ≡ h.2.list.items = c.as_slice.ensures.value ∙ ap (λ (v : Vec Drawer Global). v.items) list in
    let some = c.in-Some.ensures.some in
    (s, found-seat xs c.args.worker c.args.scan c.args.number c.in-Some.place s h c.as_slice.result.now items some.0 some.1 c.requires.apart)

pub returns-clause-seat : goal.returns-clause-seat
returns-clause-seat c =
    let xs = c.args.draws.now.items in
    let h = c.requires.held.1 in
    let list : c.index.result.now ≡ h.2.list = c.index.ensures ∙ get_or_from_slice_get xs c.args.worker h.2.list c.index.result.now h.2.outer in
    let items : c.as_slice.result.now ≡ h.2.list.items = c.as_slice.ensures.value ∙ ap (λ (v : Vec Drawer Global). v.items) list in
    let some = c.in-Some.ensures.some in
    found-draw xs c.args.worker c.args.scan c.args.number c.in-Some.place c.take_at.result h.2.list c.as_slice.result.now h.2.outer items some.0 some.1
    c.take_at.ensures.seat
