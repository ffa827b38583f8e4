use Rattle.std.proofs.Common.{arith, rules, ℕ, ◌≡◌, ◌≢◌, ◌<◌, ◌≤◌, ◌+◌, ◌∷◌, ◌++◌, [], Some, slice_get, length, inl, inr, sym, ap, ◌∙◌, subst}
use Rattle.std.specs.List.{slice_index_or}
use Rattle.std.specs.Iterator.Adapters.{enumerate_source, enumerate_count}
use Rattle.std.specs.Vec.Iter.{into_iter_items, into_iter_len}
use Rattle.std.proofs.lemmas.Bool.{cases_eq}
use Rattle.std.proofs.lemmas.List.{length_push}
use Rattle.std.proofs.lemmas.List.FromFn.{length-enumerate_from}
use Rattle.std.proofs.lemmas.Option.{slice_get-get_or, slice_get_within, same_Some}
use Rattle.std.proofs.lemmas.Iterator.Adapters.{YieldsList-from_vec}
use Rattle.std.proofs.lemmas.Iterator.Consumers.{YieldsList-from_enumerate, YieldsList-turn, YieldsList-end}
use Rattle.vx_exec_threads.specs.declared.deck_place.DeckPlace.{DeckPlace}
use Rattle.vx_exec_assembly.specs.Closing.{ClosedIn}
use Rattle.vx_exec_assembly.proofs.SeatsTaken.{remains-then, remains-apart}
use Rattle.vx_exec_assembly.proofs.Seating.{numbered, seated-on, closed-back}
use Rattle.vx_exec_assembly.proofs.closing.close_decks.Goals as goal

pub close_deck-requires-clause-seated : goal.close_deck-requires-clause-seated
close_deck-requires-clause-seated c =
    let decks = c.args.decks.items in
    let places = c.args.places.now in
    let s = c.into_iter-number-iterator.result in
    let from : enumerate_source s ≡ c.into_iter.result = search rules in
    let count : enumerate_count s ≡ 0 = search rules in
    let items : into_iter_items (enumerate_source s) ≡ decks = ap into_iter_items from ∙ c.into_iter.ensures.rest in
    let len : into_iter_len (enumerate_source s) ≡ length decks = ap into_iter_len from ∙ c.into_iter.ensures.len ∙ c.args.decks.ok.0 in
    let turn = YieldsList-turn (YieldsList-from_enumerate (YieldsList-from_vec decks items len) count) c.loop-number.yielded c.loop-number.number-iterator c.loop-number.yielded_by c.next.result c.next.new.self
    (c.in-Some.number, c.in-Some.deck) c.in-Some.is c.next.ensures.steps in
    let n = c.in-Some.number in
    let m = length c.loop-number.yielded in
    let at = numbered decks m n c.in-Some.deck turn in
    let same = at.0 in
    let lt = at.1 in
    let many = c.requires.many in
    let place : DeckPlace = record { scan = 0; first = 0; workers = 0 } in
    let q = slice_index_or places n place in
    let within : n < length places = omega (arith, same, lt, many) in
    let there : slice_get places n ≡ Some q = slice_get-get_or places n place within in
    let here : slice_get decks n ≡ Some c.in-Some.deck = ap (slice_get decks) same ∙ at.2 in
    seated-on (λ a k. m ≤ k) c.args.draws.items c.loop-number.draws.items c.loop-number.invariant.0 n c.in-Some.deck q (λ w l. omega (arith, same))
    (c.requires.seated n c.in-Some.deck q here there)

pub close_deck-requires-clause-apart : goal.close_deck-requires-clause-apart
close_deck-requires-clause-apart c =
    remains-apart (λ a k. length c.loop-number.yielded ≤ k) c.args.draws.items c.loop-number.draws.items c.loop-number.invariant.0 c.requires.apart

pub loop-number-preserved : goal.loop-number-preserved
loop-number-preserved c =
    let xs = c.args.draws.items in
    let ys = c.loop-number.draws.items in
    let decks = c.args.decks.items in
    let places = c.args.places.now in
    let s = c.into_iter-number-iterator.result in
    let from : enumerate_source s ≡ c.into_iter.result = search rules in
    let count : enumerate_count s ≡ 0 = search rules in
    let items : into_iter_items (enumerate_source s) ≡ decks = ap into_iter_items from ∙ c.into_iter.ensures.rest in
    let len : into_iter_len (enumerate_source s) ≡ length decks = ap into_iter_len from ∙ c.into_iter.ensures.len ∙ c.args.decks.ok.0 in
    let turn = YieldsList-turn (YieldsList-from_enumerate (YieldsList-from_vec decks items len) count) c.loop-number.yielded c.loop-number.number-iterator c.loop-number.yielded_by c.next.result c.next.new.self
    (c.in-Some.number, c.in-Some.deck) c.in-Some.is c.next.ensures.steps in
    let n = c.in-Some.number in
    let m = length c.loop-number.yielded in
    let after = length (c.loop-number.yielded ++ (c.in-Some.number, c.in-Some.deck) ∷ []) in
    let more : after ≡ m + 1 = length_push c.loop-number.yielded (c.in-Some.number, c.in-Some.deck) in
    let at = numbered decks m n c.in-Some.deck turn in
    let same = at.0 in
    let lt = at.1 in
    let many = c.requires.many in
    let was = c.loop-number.invariant in
    let place : DeckPlace = record { scan = 0; first = 0; workers = 0 } in
    let q0 = slice_index_or places n place in
    let within : n < length places = omega (arith, same, lt, many) in
    let there : slice_get places n ≡ Some q0 = slice_get-get_or places n place within in
    let here : slice_get decks n ≡ Some c.in-Some.deck = ap (slice_get decks) same ∙ at.2 in
    let before : ℕ → ℕ → Type 0 = λ a k. m ≤ k in
    let other : ℕ → ℕ → Type 0 = λ a k. k ≢ n in
    let behind : ℕ → ℕ → Type 0 = λ a k. after ≤ k in
    let split : (a k : ℕ) → behind a k → before a k × other a k = λ a k l. (omega (arith, l, more), λ e. absurd (omega (arith, e, l, more, same))) in
    let apart = remains-apart before xs ys was.0 c.requires.apart in
    let closed : ClosedIn xs n c.in-Some.deck q0 =
    closed-back before xs ys was.0 n c.in-Some.deck q0 (λ w l. omega (arith, same)) (c.requires.seated n c.in-Some.deck q0 here there) apart
    c.in_ok-close_deck.ensures.closed in (
      remains-then before other behind xs ys c.close_deck.new.draws.items split was.0 c.in_ok-close_deck.ensures.remains,
      λ k d q l dk qk. elim (cases_eq k n) [
        | inl e ↦
            let de : c.in-Some.deck ≡ d = same_Some c.in-Some.deck d (sym here ∙ ap (slice_get decks) (sym e) ∙ dk) in
            let qe : q0 ≡ q = same_Some q0 q (sym there ∙ ap (slice_get places) (sym e) ∙ qk) in
            subst (λ z. ClosedIn xs z d q) (sym e) (subst (λ z. ClosedIn xs n z q) de (subst (λ z. ClosedIn xs n c.in-Some.deck z) qe closed))
        | inr e ↦ was.1 k d q (omega (arith, l, e, more, same)) dk qk
      ],
    )

pub returns : goal.returns
returns c =
    let decks = c.args.decks.items in
    let s = c.into_iter-number-iterator.result in
    let from : enumerate_source s ≡ c.into_iter.result = search rules in
    let count : enumerate_count s ≡ 0 = search rules in
    let items : into_iter_items (enumerate_source s) ≡ decks = ap into_iter_items from ∙ c.into_iter.ensures.rest in
    let len : into_iter_len (enumerate_source s) ≡ length decks = ap into_iter_len from ∙ c.into_iter.ensures.len ∙ c.args.decks.ok.0 in
    let end = YieldsList-end (YieldsList-from_enumerate (YieldsList-from_vec decks items len) count) c.loop-number.yielded c.loop-number.number-iterator c.loop-number.yielded_by c.next.result c.next.new.self
    c.in-None.is c.next.ensures.steps in
    let all = end.1 in
    let same = length-enumerate_from 0 decks in
    λ k d q dk qk. let lt : k < length decks = slice_get_within decks k d dk in c.loop-number.invariant.1 k d q (omega (arith, lt, all, same)) dk qk
