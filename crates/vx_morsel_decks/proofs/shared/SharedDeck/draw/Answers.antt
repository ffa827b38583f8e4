use Rattle.std.proofs.Common.{◌≡◌, ap, sym, ◌∙◌, arith}
use Rattle.vx_morsel_decks.specs.Rule.{first_seat, one_seat}
use Rattle.vx_morsel_decks.proofs.Steps.{draw-allows}
use Rattle.vx_morsel_decks.proofs.shared.SharedDeck.draw.Goals as goal

pub fetch_add-found-requires : goal.fetch_add-found-requires
fetch_add-found-requires c =
    let seat = c.seat.inside.seat in let shared = c.self.inside.table.shared in
    let name = ap (λ x. x.name) c.seat.view_is ∙ c.requires.0 ∙ sym (ap (λ x. x.name) c.self.view_is) in
    let morsels = ap (λ x. x.morsels) c.seat.view_is ∙ c.requires.1 ∙ sym (ap (λ x. x.morsels) c.self.view_is) ∙ sym (ap (λ z. z.morsels) c.self.invariant.2) in
    let words : shared.table_id.words ≡ 1 = c.self.invariant.0 in (
      name,
      omega (arith, words),
      draw-allows shared.key shared.table_id.slots seat.id seat.me (first_seat seat.me.0.seats) (c.seat.invariant.1 ∙ ap (λ m. one_seat m (first_seat seat.me.0.seats)) morsels) (sym c.seat.invariant.2 ∙ c.if-seat.false),
    )
