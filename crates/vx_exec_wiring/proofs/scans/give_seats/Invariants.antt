use Rattle.std.proofs.Common.{◌≡◌, ◌+◌, length}
use Rattle.std.specs.List.{All}
use Rattle.std.specs.Vec.Iter.{into_iter_items}
use Rattle.vx_morsel_decks.specs.Seats.{DeckView, IsNewSeat}
use Rattle.vx_exec_wiring.specs.Giving.{GainsSeat, GivesEach, holds_of}
use Rattle.vx_exec_wiring.proofs.scans.give_seats.Given as goal

abbrev pub invariant-loop-seat : goal.invariant-loop-seat
invariant-loop-seat l = record {
  next : (goal.iterator-loop-seat).can_next l.seat-iterator;
  finite : (goal.iterator-loop-seat).is_finite l.seat-iterator;
  same : length l.shares.items ≡ length l.fn.shares.items;
  rest : l.place + length (into_iter_items l.seat-iterator) ≡ length l.fn.seats.items;
  fresh : (d : DeckView) → All (IsNewSeat d) l.fn.seats.items → All (IsNewSeat d) (into_iter_items l.seat-iterator);
  given : (d : DeckView) → All (IsNewSeat d) l.fn.seats.items
      → GivesEach (GainsSeat l.scan.number l.deck d) (holds_of l.fn.shares.items) l.scan.first l.place (holds_of l.shares.items);
}
