-- The seats of one deck, and of all decks (our own).
use Rattle.std.proofs.Common.{arith, ℕ, zero, suc, ◌≡◌, ◌<◌, ◌+◌, ◌⊎◌, List, [], ◌∷◌, ◌++◌, Vec, Global, length, Some}
use Rattle.std.proofs.Common.{refl, sym, ap, ◌∙◌, subst, inl, inr, slice_get, get_or, zero-add}
use Rattle.std.specs.List.{All}
use Rattle.std.specs.List.{enumerate_from}
use Rattle.std.proofs.lemmas.List.FromFn.{length-enumerate_from, get_or-enumerate_from}
use Rattle.std.proofs.lemmas.Option.{get_or_from_slice_get, slice_get_within, slice_get-get_or, same_Some, none-some}
use Rattle.vx_morsel_decks.specs.Seats.{DeckView, SeatView, IsSeatOf}
use Rattle.vx_exec_threads.specs.declared.deck_place.DeckPlace.{DeckPlace}
use Rattle.vx_exec_threads.specs.declared.drawer.Drawer.{Drawer}
use Rattle.vx_exec_threads.specs.declared.drawer.Dealer.TheVariants as dealer
use Rattle.vx_exec_assembly.specs.Closing.{DrawIn, SeatedIn, ClosedIn, AreApartDraws}
use Rattle.vx_exec_assembly.specs.SeatsTaken.{HeldIn, Remains}
use Rattle.vx_exec_assembly.proofs.SeatsTaken.{below, one-seat, held-back}

-- what comes with its number stands there
pub numbered : {A : Type 0} (ds : List A) (n number : ℕ) (d : A) → (n < length (enumerate_from 0 ds)) × ((number, d) ≡ get_or (enumerate_from 0 ds) n (number, d))
    → (number ≡ n) × (n < length ds) × (slice_get ds n ≡ Some d)
numbered {A} ds n number d h =
    let len = length-enumerate_from 0 ds in
    let lt = h.0 in
    let l : n < length ds = omega (arith, lt, len) in
    let both : (number, d) ≡ (0 + n, get_or ds n d) = h.1 ∙ get_or-enumerate_from 0 ds n (number, d) l in (
      ap (λ (p : ℕ × A). p.0) both ∙ zero-add n,
      l,
      slice_get-get_or ds n d l ∙ ap Some (sym (ap (λ (p : ℕ × A). p.1) both)),
    )

-- what stands in a list with one more behind it
pub one-more : {A : Type 0} (xs : List A) (r : A) (w : ℕ) (s : A) → slice_get (xs ++ r ∷ []) w ≡ Some s
    → (slice_get xs w ≡ Some s) ⊎ ((w ≡ length xs) × (r ≡ s))
one-more [] r zero s e = inr (refl, same_Some r s e)
one-more [] r (suc w) s e = absurd (none-some s e)
one-more (x ∷ xs) r zero s e = inl e
one-more (x ∷ xs) r (suc w) s e = elim (one-more xs r w s e) [
  | inl h ↦ inl h
  | inr h ↦ inr (ap suc h.0, h.1)
]

module _ (xs : List (Vec Drawer Global)) (k : ℕ) (q : DeckPlace) where
  -- one more seat
  pub held-more : (seats : List SeatView) (w : ℕ) (r : SeatView) → length seats ≡ w → HeldIn xs k q seats
      → DrawIn xs (q.first + w) q.scan (dealer.Seat k r) → HeldIn xs k q (seats ++ r ∷ [])
  held-more seats w r count h d v s e = elim (one-more seats r v s e) [
    | inl g ↦ h v s g
    | inr g ↦
        let at : w ≡ v = sym count ∙ sym g.0 in
        subst (λ z. DrawIn xs (q.first + v) q.scan (dealer.Seat k z)) g.1 (subst (λ z. DrawIn xs (q.first + z) q.scan (dealer.Seat k r)) at d)
  ]

  -- all of them are of the deck
  pub all-of-deck : (d : DeckView) → SeatedIn xs k d q → AreApartDraws xs → (seats : List SeatView) → length seats ≡ q.workers
      → HeldIn xs k q seats → All (IsSeatOf d) seats
  all-of-deck d seated apart seats count h i e l =
      let x = below seats i l in
      let lt : i < q.workers = omega (arith, l, count) in
      let y = seated.held i lt in
      let same : y.0 ≡ x.0 = one-seat xs (q.first + i) q.scan k y.0 x.0 apart y.1 (h i x.0 x.1) in
      subst (λ z. IsSeatOf d z) (same ∙ sym (get_or_from_slice_get seats i x.0 e x.1)) y.2

module _ (p : (a k : ℕ) → Type 0) (xs ys : List (Vec Drawer Global)) (f : Remains p xs ys) (k : ℕ) (d : DeckView) (q : DeckPlace)
    (stays : (w : ℕ) → w < q.workers → p (q.first + w) k) where
  -- a deck whose seats remain is still seated
  pub seated-on : SeatedIn xs k d q → SeatedIn ys k d q
  seated-on s = record {
    seats = s.seats;
    held = λ w l. let h = s.held w l in (h.0, f.seats (q.first + w) q.scan k h.0 (stays w l) h.1, h.2);
  }

  -- and what it was closed with it had before
  pub closed-back : SeatedIn xs k d q → AreApartDraws ys → ClosedIn ys k d q → ClosedIn xs k d q
  closed-back s apart c = record {
    t = c.t;
    seats = c.seats;
    count_is = c.count_is;
    dealt = c.dealt;
    held = λ w t e.
        let lt : w < length c.seats = slice_get_within c.seats w t e in
        let count = c.count_is in
        let l : w < q.workers = omega (arith, lt, count) in
        let h = s.held w l in
        held-back p xs ys f apart (q.first + w) q.scan k h.0 t (stays w l) h.1 (c.held w t e);
  }
