use Rattle.std.proofs.Common.{◌≡◌, ℕ, length, subst, arith}
use Rattle.vx_exec_wiring.specs.Giving.{GainsSeat, GivesEach, holds_of}
use Rattle.vx_exec_wiring.proofs.making.Making.add_deck.Goals as goal

pub returns : goal.returns
returns c =
    let s = c.args.scan in
    let deck = c.in_ok-made.made.0 in
    let seats = c.in_ok-made.ensures.seats in
    let old = c.args.self.now in
    let hs = holds_of c.give_seats.new.shares.items in
    let number : c.len-number.result ≡ length old.decks.items = (let k = old.decks.ok in omega (arith, c.len-number.ensures, k)) in
    record {
      deck = deck;
      morsels = c.in_ok-made.ensures.deck.0;
      seats = c.in_ok-made.ensures.deck.1;
      given = subst (λ (v : ℕ). GivesEach (GainsSeat s.number v deck) (holds_of old.shares.items) s.first s.workers hs) number
          (subst (λ (v : ℕ). GivesEach (GainsSeat s.number c.len-number.result deck) (holds_of old.shares.items) s.first v hs) seats.1 (c.in_ok-give_seats.ensures deck seats.0));
      decks = c.in_ok-push.ensures.items;
      places = c.in_ok-push-2.ensures.items;
    }
