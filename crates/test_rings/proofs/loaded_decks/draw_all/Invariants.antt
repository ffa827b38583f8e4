use Rattle.std.proofs.Common.{◌≡◌}
use Rattle.test_rings.proofs.loaded_decks.draw_all.Given as goal

abbrev pub invariant-loop : goal.invariant-loop
invariant-loop l = (l.seat.name ≡ l.fn.seat.name) × (l.seat.morsels ≡ l.fn.seat.morsels)
