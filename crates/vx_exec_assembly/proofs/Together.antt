-- All rings reunited and all decks closed, as the plan says (our own).
use Rattle.std.proofs.Common.{ℕ, ◌≡◌, ◌+◌, true, false, List, length, map, refl, ap, ◌∙◌, subst}
use Rattle.std.specs.List.{AllByRecursion}
use Rattle.vx_plan_nodes.specs.Plan.{Plan, scan, unary, binary, exchange, size}
use Rattle.vx_plan_nodes.specs.Streams.{workers}
use Rattle.vx_morsel.specs.Draws.{DealtOut}
use Rattle.vx_morsel.specs.Hands.{HandState}
use Rattle.vx_worker.specs.Fragment.{RunModel}
use Rattle.vx_worker.specs.Morsels.{morsel_count}
use Rattle.vx_plan_nodes.specs.Workers.{workers_below}
use Rattle.vx_exec_layout.specs.Layout.{spans_of}
use Rattle.vx_exec_layout.proofs.Each.{each-both, each-parts}
use Rattle.vx_morsel_decks.specs.Seats.{DeckView, SeatView, draws_in}
use Rattle.vx_exec_threads.specs.declared.drawer.Dealer.{Dealer}
use Rattle.vx_exec_threads.specs.declared.drawer.Dealer.TheVariants as dealer
use Rattle.vx_exec_threads.specs.declared.deck_place.DeckPlace.{DeckPlace}
use Rattle.vx_exec_threads.specs.Drawers.{SameDealer}
use Rattle.vx_exec_threads.specs.Holds.{Hold, DrawAt}
use Rattle.vx_exec_threads.specs.Joined.{FlowsThrough, ClosedAt, Together}
use Rattle.vx_exec_threads.specs.Paired.{IsRingOf, Paired, AllSame}
use Rattle.vx_exec_threads.specs.Wired.{HasDeck, Dealing, AllSeated}
use Rattle.vx_exec_spawn.specs.declared.member.Joined.{Joined}
use Rattle.vx_exec_assembly.specs.Spans.{IsSpanned}
use Rattle.vx_exec_assembly.specs.Closing.{AllSeatedIn, AllClosed}
use Rattle.vx_exec_assembly.specs.Parts.{outs_in, ins_in, drawers_in, held_in}
use Rattle.vx_exec_assembly.proofs.Lists.{pair-in, pair-at, draw-in, draw-at}

seat-stays : (d : Dealer) (k : ℕ) (s : SeatView) → SameDealer (dealer.Seat k s) d
    → (t : SeatView) × (d ≡ dealer.Seat k t) × (t.name ≡ s.name) × (t.morsels ≡ s.morsels)
seat-stays (dealer.Seat l t) k s h = (t, ap (λ z. dealer.Seat z t) h.0, h.1, h.2)
seat-stays (dealer.Hand g) k s h = absurd h

hand-stays : (d : Dealer) (h : HandState) → SameDealer (dealer.Hand h) d → (g : HandState) × (d ≡ dealer.Hand g) × (g.morsels ≡ h.morsels)
hand-stays (dealer.Seat l t) h e = absurd e
hand-stays (dealer.Hand g) h e = (g, refl, e)

module _ (gs hs : List Hold) (same : AllSame gs hs) where
  -- what gave a worker the morsels of a scan, and gives them still
  stays-at : (a n : ℕ) (d : Dealer) → DrawAt gs a n d → (e : Dealer) × DrawAt hs a n e × SameDealer d e
  stays-at a n d h =
      let u = same a h.hold h.worker in
      let y = u.2.draws h.k h.x h.place in (
        y.0.dealer,
        record { hold = u.0; worker = u.1; k = h.k; x = y.0; place = y.1; scan = y.2.scan ∙ h.scan; dealer = refl },
        subst (λ (z : Dealer). SameDealer z y.0.dealer) h.dealer y.2.dealer,
      )

  seat-at : (a n k : ℕ) (s : SeatView) → DrawAt gs a n (dealer.Seat k s)
      → (t : SeatView) × DrawAt hs a n (dealer.Seat k t) × (t.name ≡ s.name) × (t.morsels ≡ s.morsels)
  seat-at a n k s h =
      let x = stays-at a n (dealer.Seat k s) h in
      let y = seat-stays x.0 k s x.2 in
      (y.0, subst (λ (z : Dealer). DrawAt hs a n z) y.1 x.1, y.2, y.3)

  hand-at : (a n : ℕ) (h : HandState) → DrawAt gs a n (dealer.Hand h) → (g : HandState) × DrawAt hs a n (dealer.Hand g) × (g.morsels ≡ h.morsels)
  hand-at a n h q =
      let x = stays-at a n (dealer.Hand h) q in
      let y = hand-stays x.0 h x.2 in
      (y.0, subst (λ (z : Dealer). DrawAt hs a n z) y.1 x.1, y.2)

module _ {O S : Type 0} (js : List (Joined O S)) where
  pub pairs-in : (W : RunModel) (p : Plan) (top next : ℕ) → Paired W p top next (map held_in js)
      → AllByRecursion (IsSpanned IsRingOf (map outs_in js) (map ins_in js)) (spans_of W.sizes p top next)
  pairs-in W (scan n c r k z) top next h = (tt, tt)
  pairs-in W (unary n c op p) top next h = (tt, pairs-in W p top next h)
  pairs-in W (binary n c op p q) top next h =
      let behind = next + workers_below W.sizes p in (
        tt,
        each-both (IsSpanned IsRingOf (map outs_in js) (map ins_in js)) (spans_of W.sizes p top next) (spans_of W.sizes q top behind) (pairs-in W p top next h.0) (pairs-in W q top behind h.1),
      )
  pairs-in W (exchange n c k merge p) top next h = (
    λ i j l r. pair-in js IsRingOf (next + i) j (top + j) n i (h.0 i j l r),
    pairs-in W p next (next + workers W.sizes (size p)) h.1,
  )

  module _ (gs : List Hold) (same : AllSame gs (map held_in js)) (decks : List DeckView) (places : List DeckPlace) where
    pub seated-in : AllSeated decks places gs → AllSeatedIn decks places (map drawers_in js)
    seated-in h k d q ed eq =
        let x = h k d q ed eq in
        record {
          seats = x.0;
          held = λ w l.
              let y = x.1 w l in
              let z = seat-at gs (map held_in js) same (q.first + w) q.scan k y.0 y.1 in
              (z.0, draw-in js (q.first + w) q.scan (dealer.Seat k z.0) z.1, (z.2 ∙ y.2.0, z.3 ∙ y.2.1));
        }

    closed-at : (n top count morsels : ℕ) → AllClosed decks places (map drawers_in js) → HasDeck decks places n top count morsels
        → ClosedAt (map held_in js) n top count morsels
    closed-at n top count morsels closed h =
        let x = closed h.k h.deck h.at h.here h.place in
        record {
          t = x.t;
          deck = h.k;
          seats = x.seats;
          count_is = x.count_is ∙ h.workers;
          dealt = subst (λ (z : ℕ). DealtOut z x.t (draws_in x.seats)) h.morsels x.dealt;
          held = λ w s e.
              let y = draw-at js (h.at.first + w) h.at.scan (dealer.Seat h.k s) (x.held w s e) in
              subst (λ (z : ℕ). DrawAt (map held_in js) (top + w) z (dealer.Seat h.k s)) h.scan
              (subst (λ (z : ℕ). DrawAt (map held_in js) (z + w) h.at.scan (dealer.Seat h.k s)) h.first y);
        }

    pub together : (W : RunModel) (p : Plan) (top next : ℕ) → AllClosed decks places (map drawers_in js)
        → AllByRecursion (IsSpanned FlowsThrough (map outs_in js) (map ins_in js)) (spans_of W.sizes p top next) → Dealing W decks places p top next gs
        → Together FlowsThrough W p top next (map held_in js)
    together W (scan n c r true z) top next closed f h =
        closed-at n top (workers W.sizes z) (morsel_count W.morsel (length (W.db r))) closed h
    together W (scan n c r false z) top next closed f h = λ w l.
        let x = h w l in
        let y = hand-at gs (map held_in js) same (top + w) n x.0 x.1 in
        (y.0, y.1, y.2 ∙ x.2)
    together W (unary n c op p) top next closed f h = together W p top next closed f.1 h
    together W (binary n c op p q) top next closed f h =
        let behind = next + workers_below W.sizes p in
        let z = each-parts (IsSpanned FlowsThrough (map outs_in js) (map ins_in js)) (spans_of W.sizes p top next) (spans_of W.sizes q top behind) f.1 in
        (together W p top next closed z.0 h.0, together W q top behind closed z.1 h.1)
    together W (exchange n c k merge p) top next closed f h = (
      λ i j l r. pair-at js FlowsThrough (next + i) j (top + j) n i (f.0 i j l r),
      together W p next (next + workers W.sizes (size p)) closed f.1 h,
    )
