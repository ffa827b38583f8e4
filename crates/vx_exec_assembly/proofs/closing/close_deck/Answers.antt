use Rattle.vx_exec_assembly.proofs.Seating.{all-of-deck}
use Rattle.vx_exec_assembly.proofs.closing.close_deck.Goals as goal

pub take_seats-requires-clause-held : goal.take_seats-requires-clause-held
take_seats-requires-clause-held c = λ w l. let h = c.requires.seated.held w l in (h.0, h.1)

pub close-requires-clause-seats : goal.close-requires-clause-seats
close-requires-clause-seats c =
    all-of-deck c.args.draws.now.items c.args.number c.args.place.now c.args.deck c.requires.seated c.requires.apart c.in_ok-seats.seats.items
    c.in_ok-seats.ensures.count c.in_ok-seats.ensures.seats
