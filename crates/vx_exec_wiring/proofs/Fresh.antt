-- Nothing went through what was added (our own).
use Rattle.std.proofs.Common.{ℕ, zero, suc, ◌≡◌, ◌<◌, ◌≤◌, ◌+◌, ◌⊎◌, cond, List, [], Some, refl, sym, ap, ◌∙◌, subst, arith, inl, inr, slice_get, true≢false}
use Rattle.std.proofs.lemmas.Bool.{le-ltb}
use Rattle.std.proofs.lemmas.Option.{slice_get_within, get_or_from_slice_get, none-some}
use Rattle.vx_plan_nodes.specs.Streams.{across}
use Rattle.vx_worker.specs.Trace.{empty_trace}
use Rattle.vx_exec_steps.specs.Agrees.{DrewByHand}
use Rattle.vx_exec_steps.specs.Scans.{full_hand}
use Rattle.vx_morsel_decks.specs.Rule.{no_draws}
use Rattle.vx_morsel_decks.specs.Seats.{DeckView, SeatView, IsSeatOf}
use Rattle.vx_ports_rings.specs.Ends.{put_to, taken_from}
use Rattle.vx_ports_rings.specs.declared.ring.RingOut.{RingOut}
use Rattle.vx_exec_threads.specs.declared.inlet.Inlet.{Inlet}
use Rattle.vx_exec_threads.specs.declared.drawer.Drawer.{Drawer}
use Rattle.vx_exec_threads.specs.declared.drawer.Dealer.TheVariants as dealer
use Rattle.vx_exec_threads.specs.Drawers.{DealsAs, Sits}
use Rattle.vx_exec_threads.specs.Holds.{Hold, Bears}
use Rattle.vx_exec_wiring.specs.Giving.{GainsDrawer, GainsInlet, IsNewRing}
use Rattle.vx_exec_wiring.specs.Making.{IsBefore, IsFresh}
use Rattle.vx_exec_wiring.proofs.Places.{get-snoc}
use Rattle.vx_exec_wiring.proofs.Staying.{sits-on}

-- every deck stays at its place
abbrev pub DecksOn : List DeckView → List DeckView → Type 0
DecksOn ds es = (k : ℕ) (d : DeckView) → slice_get ds k ≡ Some d → slice_get es k ≡ Some d

-- the nodes below n, and i producers of n, are below m, with j of its producers
abbrev pub IsUpTo : (n i m j : ℕ) → Type 0
IsUpTo n i m j = (n < m) ⊎ ((n ≡ m) × (i ≤ j))

pub before-more : (n i m j : ℕ) (e : Inlet) → IsUpTo n i m j → IsBefore n i e → IsBefore m j e
before-more n i m j e (inl l) (inl k) = inl (omega (arith, l, k))
before-more n i m j e (inl l) (inr k) = let q = k.0 in inl (omega (arith, l, q))
before-more n i m j e (inr l) (inl k) = let q = l.0 in inl (omega (arith, q, k))
before-more n i m j e (inr l) (inr k) = let a = l.0 in let b = l.1 in let c = k.0 in let d = k.1 in inr (omega (arith, a, c), omega (arith, b, d))

-- a later bound, and more decks
pub fresh-more : (ds es : List DeckView) (n i m j : ℕ) (h : Hold) → DecksOn ds es → IsUpTo n i m j → n ≤ m → IsFresh ds n i h → IsFresh es m j h
fresh-more ds es n i m j h on up le x = record {
  apart = x.apart;
  outs = x.outs;
  ins = λ k e q. let z = x.ins k e q in (z.0, z.1, before-more n i m j e up z.2);
  draws = λ k y q. let z = x.draws k y q in let l = z.2 in (z.0, sits-on ds es on y z.1, omega (arith, l, le));
}

-- a worker that has the ends of its rings alone
pub fresh-outs : (ds : List DeckView) (n i : ℕ) (outs : List RingOut) → ((j : ℕ) (o : RingOut) → slice_get outs j ≡ Some o → put_to o ≡ [])
    → IsFresh ds n i (record { outs = outs; ins = []; draws = [] })
fresh-outs ds n i outs fresh = record {
  apart = record { ins = λ k l e f ek el x y. absurd (none-some e ek); draws = λ k l x y ek el z. absurd (none-some x ek) };
  outs = fresh;
  ins = λ k e q. absurd (none-some e q);
  draws = λ k x q. absurd (none-some x q);
}

-- one drawer more, of the next node
pub fresh-drawer : (ds es : List DeckView) (n : ℕ) (x : Drawer) (h g : Hold) → DecksOn ds es → x.scan ≡ n
    → DealsAs x.dealer (empty_trace.drew x.scan) → Sits es x → GainsDrawer x h g → IsFresh ds n 0 h → IsFresh es (n + 1) 0 g
fresh-drawer ds es n x h g on is deals sits gains f = subst (λ z. IsFresh es (n + 1) 0 z) (sym gains) (record {
  apart = record {
    ins = f.apart.ins;
    draws = λ k l y z ek el same. elim (get-snoc h.draws x k y ek) [
      | inl a ↦ elim (get-snoc h.draws x l z el) [
        | inl b ↦ f.apart.draws k l y z a b same
        | inr b ↦
            let less = (f.draws k y a).2 in
            let at : z.scan ≡ n = ap (λ (w : Drawer). w.scan) b.1 ∙ is in
            absurd (omega (arith, less, at, same))
      ]
      | inr a ↦ elim (get-snoc h.draws x l z el) [
        | inl b ↦
            let less = (f.draws l z b).2 in
            let at : y.scan ≡ n = ap (λ (w : Drawer). w.scan) a.1 ∙ is in
            absurd (omega (arith, less, at, same))
        | inr b ↦ a.0 ∙ sym b.0
      ]
    ];
  };
  outs = f.outs;
  ins = λ k e q. let z = f.ins k e q in (z.0, z.1, before-more n 0 (n + 1) 0 e (inl (omega arith)) z.2);
  draws = λ k y q. elim (get-snoc h.draws x k y q) [
    | inl a ↦ let z = f.draws k y a in let l = z.2 in (z.0, sits-on ds es on y z.1, omega (arith, l))
    | inr a ↦
        subst (λ (w : Drawer). DealsAs w.dealer (empty_trace.drew w.scan) × Sits es w × (w.scan < n + 1)) (sym a.1) (deals, sits, omega (arith, is))
  ];
})

-- one inlet more, from the next producer of node n
pub fresh-inlet : (ds es : List DeckView) (n i : ℕ) (o : RingOut) (x : Inlet) (h g : Hold) → DecksOn ds es → IsNewRing n i o x → GainsInlet x h g → IsFresh ds n i h → IsFresh es n (i + 1) g
fresh-inlet ds es n i o x h g on r gains f = subst (λ z. IsFresh es n (i + 1) z) (sym gains) (record {
  apart = record {
    ins = λ k l y z ek el same place. elim (get-snoc h.ins x k y ek) [
      | inl a ↦ elim (get-snoc h.ins x l z el) [
        | inl b ↦ f.apart.ins k l y z a b same place
        | inr b ↦ absurd (never y z (f.ins k y a).2 b.1 same place)
      ]
      | inr a ↦ elim (get-snoc h.ins x l z el) [
        | inl b ↦ absurd (never z y (f.ins l z b).2 a.1 (sym same) (sym place))
        | inr b ↦ a.0 ∙ sym b.0
      ]
    ];
    draws = f.apart.draws;
  };
  outs = f.outs;
  ins = λ k y q. elim (get-snoc h.ins x k y q) [
    | inl a ↦ let z = f.ins k y a in (z.0, z.1, before-more n i n (i + 1) y (inr (refl, omega arith)) z.2)
    | inr a ↦
        let from = r.from in
        subst (λ (w : Inlet). (taken_from w.ring ≡ []) × (w.queue.items ≡ []) × IsBefore n (i + 1) w) (sym a.1) (r.taken, r.queue, inr (r.exchange, omega (arith, from)))
  ];
  draws = λ k y q. let z = f.draws k y q in (z.0, sits-on ds es on y z.1, z.2);
})
  where
    never : (y z : Inlet) → IsBefore n i y → z ≡ x → y.exchange ≡ z.exchange → y.from ≡ z.from → ⊥
    never y z (inl l) e same place =
        let at : z.exchange ≡ n = ap (λ (w : Inlet). w.exchange) e ∙ r.exchange in
        omega (arith, l, at, same)
    never y z (inr l) e same place =
        let at : z.from ≡ i = ap (λ (w : Inlet). w.from) e ∙ r.from in
        let k = l.1 in
        omega (arith, k, at, place)

-- before the first step
pub fresh-bears : (ds : List DeckView) (n i : ℕ) (h : Hold) → IsFresh ds n i h → Bears h empty_trace
fresh-bears ds n i h f = record {
  apart = f.apart;
  outs = f.outs;
  ins = λ k e q. let z = f.ins k e q in z.0 ∙ sym z.1;
  draws = λ k x q. (f.draws k x q).0;
}

no-sum : (n : ℕ) → across n (λ w. 0) ≡ 0
no-sum zero = refl
no-sum (suc n) = let e = no-sum n in omega (arith, e)

-- nothing was drawn from a hand of all morsels
pub hand-deals : (m : ℕ) → DrewByHand (full_hand m) no_draws
hand-deals m = record {
  one = refl;
  drew = record {
    rise = λ w l. tt;
    under = λ w l. tt;
    each = λ x. no-sum 1 ∙ sym (ap (λ b. cond b 1 0) (le-ltb x 0 (omega arith)));
    most = omega arith;
    ended = λ w l e. absurd (true≢false (sym e));
  };
}

-- a hand is no seat
pub hand-sits : (ds : List DeckView) (n m : ℕ) → Sits ds (record { scan = n; dealer = dealer.Hand (full_hand m) })
hand-sits ds n m k s e = absurd (hand-no-seat (full_hand m) k s e)
  where
    hand-no-seat : (h : _) (k : ℕ) (s : SeatView) → dealer.Hand h ≡ dealer.Seat k s → ⊥
    hand-no-seat h k s e = cc

seat-deck : (k l : ℕ) (s t : SeatView) → dealer.Seat k s ≡ dealer.Seat l t → l ≡ k
seat-deck k l s t e = cc

seat-view : (k l : ℕ) (s t : SeatView) → dealer.Seat k s ≡ dealer.Seat l t → t ≡ s
seat-view k l s t e = cc

pub seat-sits : (ds : List DeckView) (n k : ℕ) (d : DeckView) (s : SeatView) → slice_get ds k ≡ Some d → IsSeatOf d s → Sits ds (record { scan = n; dealer = dealer.Seat k s })
seat-sits ds n k d s at of l t e =
    let kl = seat-deck k l s t e in
    let here : slice_get ds l ≡ Some d = ap (slice_get ds) kl ∙ at in (
      slice_get_within ds l d here,
      λ f. subst (λ (y : SeatView). IsSeatOf (Rattle.std.proofs.Math.ListN.get_or ds l f) y) (sym (seat-view k l s t e))
          (subst (λ (y : DeckView). IsSeatOf y s) (sym (get_or_from_slice_get ds l d f here)) of),
    )
