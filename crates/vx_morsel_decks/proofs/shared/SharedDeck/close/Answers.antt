use Rattle.std.proofs.Common.{rules, ◌≡◌, ap, sym, ◌∙◌, ◌∷◌, [], ◌++◌, subst, ℕ, List, arith, append-nil, length, min}
use Rattle.std.specs.Vec.Iter.{into_iter_items}
use mathlib.Core.Option.{some-injective}
use lib.ListN.{get_elem?}
use Rattle.vx_morsel.specs.Draws.{Draws, DealtOut}
use Rattle.vx_morsel_decks.specs.Seats.{IsSeatOf, draws_in}
use Rattle.std.proofs.lemmas.List.Elements.{recursion_from_All}
use Rattle.vx_morsel_decks.proofs.Ends.{joins, dealt}
use Rattle.vx_morsel_decks.proofs.Seats.{seats-rest, draws-length, nothing}
use Rattle.vx_morsel_decks.proofs.shared.SharedDeck.close.Goals as goal

pub loop-next-init : goal.loop-next-init
loop-next-init c =
    let rest = into_iter_items c.into_iter-next-iterator.result in
    let seats : c.args.seats.items ≡ c.in-Some.first ∷ rest = search rules in
    let all = recursion_from_All (IsSeatOf c.args.self) c.args.seats.items c.requires.seats in
    let first = seats-rest c.args.self c.args.seats.items rest c.in-Some.first seats all in (
      tt,
      tt,
      search rules,
      search rules,
      search rules,
      first.1,
    )

pub join_seat-requires : goal.join_seat-requires
join_seat-requires c =
    let inv = c.loop-next.invariant in let shared = c.self.inside.table.shared in let other = c.into_seat-seat.result in
    let next : into_iter_items c.loop-next.next-iterator ≡ c.in-Some-next.next ∷ into_iter_items c.next-in-loop-next.new.self = search rules in
    let of = seats-rest c.args.self (into_iter_items c.loop-next.next-iterator) (into_iter_items c.next-in-loop-next.new.self) c.in-Some-next.next next inv.5 in
    let words : shared.table_id.words ≡ 1 = c.self.invariant.0 in (
      inv.2,
      c.into_seat-seat.ensures.0 ∙ of.0.0 ∙ sym (ap (λ d. d.name) c.self.view_is),
      c.into_seat-seat.ensures.1,
      omega (arith, words),
      joins shared.key c.loop-next.all.id c.loop-next.all.me.0 other.id other.me.0,
    )

pub free-requires : goal.free-requires
free-requires c = λ k lt. absurd (let z = c.self.invariant.1 in let n = c.close_with-closed.ensures.counts in omega (arith, z, n.1, lt))

pub returns : goal.returns
returns c =
    let shared = c.self.inside.table.shared in let all = c.loop-next.all in
    let none : into_iter_items c.loop-next.next-iterator ≡ [] = nothing (into_iter_items c.loop-next.next-iterator) (search rules) in
    let seats : all.me.0.seats ≡ draws_in c.args.seats.items = sym (append-nil all.me.0.seats) ∙ ap (λ ss. all.me.0.seats ++ draws_in ss) (sym none) ∙ c.loop-next.invariant.4 in
    let final = c.close_with-closed.ensures.values.2 in let s = final.0 in let holds = final.1.0 in let w = holds.0 in
    let tries : c.word-tries.result ≡ w = some-injective c.word-tries.result w (sym c.word-tries.ensures ∙ ap (λ ws. get_elem? ws 0) (sym final.2 ∙ holds.1)) in
    let key = shared.key in
    let m : key.morsels ≡ c.args.self.morsels = ap (λ z. z.morsels) c.self.invariant.2 ∙ ap (λ d. d.morsels) c.self.view_is in
    let n : key.seats ≡ c.args.self.seats = ap (λ z. z.seats) c.self.invariant.2 ∙ ap (λ d. d.seats) c.self.view_is in
    let full = dealt key w s.views all.id all.me.0 holds.2 final.1.1 (ap length seats ∙ draws-length c.args.seats.items ∙ c.requires.all ∙ sym n) in
    let least : min w key.morsels ≡ c.min.result = sym (c.min.ensures ∙ ap (λ k. min k c.self.inside.size.morsels) tries ∙ ap (λ k. min w k) (sym (ap (λ z. z.morsels) c.self.invariant.2))) in
    let P : ℕ → Type 0 = λ k. DealtOut k (min w key.morsels) all.me.0.seats in
    let Q : ℕ → Type 0 = λ t. DealtOut c.args.self.morsels t all.me.0.seats in
    let R : List Draws → Type 0 = λ hs. DealtOut c.args.self.morsels c.min.result hs in
    subst R seats (subst Q least (subst P m full))
