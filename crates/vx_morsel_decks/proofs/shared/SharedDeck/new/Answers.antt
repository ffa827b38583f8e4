use Rattle.std.proofs.Common.{rules, ◌≡◌, ap, ◌∙◌, ◌<◌, ◌+◌, ◌-◌, suc, arith, refl}
use Rattle.vx_morsel_decks.specs.Seats.{DeckView}
use Rattle.vx_morsel_decks.proofs.Ends.{begins, splits}
use Rattle.vx_morsel_decks.proofs.Seats.{left-dealt, right-dealt, new-snoc, seat-is, more-left}
use Rattle.vx_morsel_decks.proofs.shared.SharedDeck.new.Goals as goal

pub of_words-requires : goal.of_words-requires
of_words-requires c = (0, refl, begins (record { morsels = c.args.morsels; seats = c.args.seats }) (omega arith))

pub split_seat-one-requires : goal.split_seat-one-requires
split_seat-one-requires c =
    let shared = c.in_ok-table.table.shared in let inv = c.deal.invariant in (
      inv.0,
      search rules,
      splits shared.key c.deal.seat.id c.deal.seat.me.0,
    )

pub deal-preserved : goal.deal-preserved
deal-preserved c =
    let inv = c.deal.invariant in let m = c.args.morsels in let name = c.in_ok-table.table.shared.table_id in let split = c.split_seat-one.ensures in
    let d : DeckView = record { name = name; morsels = m; seats = c.args.seats } in
    let k = c.args.seats - (c.deal.counter + 1) + 1 in
    let one_more : c.args.seats - c.deal.counter + 1 ≡ suc k = (let lt : c.deal.counter < c.args.seats = search rules in omega (arith, lt)) in
    let was = more-left m (c.args.seats - c.deal.counter + 1) (suc k) c.deal.seat.me.0 inv.2 one_more in
    let right = ap (λ x. x.0) split.4 ∙ right-dealt m k c.deal.seat.me.0 was in (
      split.0 ∙ inv.0,
      ap (λ x. x.1) split.2 ∙ inv.1,
      ap (λ x. x.0) split.2 ∙ left-dealt m k c.deal.seat.me.0 was,
      search rules,
      new-snoc d c.deal.all.items c.push.new.self.items c.of.result c.in_ok-push.ensures.items inv.4
          (seat-is d c.of.result c.split_seat-one.result.table_id c.split_seat-one.result.me.0.morsels c.of.ensures (split.3 ∙ inv.0) (ap (λ x. x.morsels) right)),
    )

pub returns-clause-seats : goal.returns-clause-seats
returns-clause-seats c =
    let inv = c.deal.invariant in let m = c.args.morsels in let name = c.in_ok-table.table.shared.table_id in
    let d : DeckView = record { name = name; morsels = m; seats = c.args.seats } in (
      new-snoc d c.deal.all.items c.push-2.new.self.items c.of-2.result c.in_ok-push-2.ensures.items inv.4
          (seat-is d c.of-2.result c.deal.seat.table_id c.deal.seat.me.0.morsels c.of-2.ensures inv.0 (ap (λ x. x.morsels) inv.2)),
      search rules,
    )
