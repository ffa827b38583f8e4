use Rattle.std.proofs.Common.{◌≡◌, ◌+◌, ◌-◌, [], replicate, vec_len}
use Rattle.std.specs.Prelude.{All}
use Rattle.vx_morsel_decks.specs.Rule.{no_draws}
use Rattle.vx_morsel_decks.specs.Seats.{IsNewSeat}
use Rattle.vx_morsel_decks.proofs.shared.SharedDeck.new.Given as goal

abbrev pub invariant-deal : goal.invariant-deal
invariant-deal l =
    (l.seat.table_id ≡ l.table.shared.table_id)
    × (l.seat.me.1 ≡ [])
    × (l.seat.me.0 ≡ record { morsels = l.morsels; seats = replicate (l.seats - l.counter + 1) no_draws })
    × (vec_len l.all + 1 ≡ l.counter)
    × All (IsNewSeat (record { name = l.table.shared.table_id; morsels = l.morsels; seats = l.seats })) l.all.items
