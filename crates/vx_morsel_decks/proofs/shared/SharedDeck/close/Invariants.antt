use Rattle.std.proofs.Common.{◌≡◌, ◌++◌, []}
use Rattle.std.specs.List.{AllByRecursion}
use Rattle.std.specs.Vec.Iter.{into_iter_items}
use Rattle.vx_morsel_decks.specs.Seats.{IsSeatOf, draws_in}
use Rattle.vx_morsel_decks.proofs.shared.SharedDeck.close.Given as goal

abbrev pub invariant-loop-next : goal.invariant-loop-next
invariant-loop-next l =
    (goal.iterator-loop-next).can_next l.next-iterator
    × (goal.iterator-loop-next).is_finite l.next-iterator
    × (l.all.table_id ≡ l.table.shared.table_id)
    × (l.all.me.1 ≡ [])
    × (l.all.me.0.seats ++ draws_in (into_iter_items l.next-iterator) ≡ draws_in l.fn.seats.items)
    × AllByRecursion (IsSeatOf l.fn.self) (into_iter_items l.next-iterator)
