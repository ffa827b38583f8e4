-- What workers hold stays theirs while more is added (our own).
use Rattle.std.proofs.Common.{ℕ, ◌≡◌, ◌+◌, Bool, true, false, List, [], ◌∷◌, ◌++◌, Some, sym, ◌∙◌, subst, inl, inr, slice_get}
use Rattle.std.proofs.lemmas.Option.{slice_get_within, get_or_from_slice_get}
use Rattle.vx_exec_layout.specs.declared.span.ScanSpan.{ScanSpan}
use Rattle.vx_exec_layout.specs.declared.span.NodeSpan.{NodeSpan}
use Rattle.vx_exec_layout.specs.declared.span.NodeSpan.TheVariants.{Inner, Exchange, Scan}
use Rattle.vx_morsel_decks.specs.Seats.{DeckView, IsSeatOf}
use Rattle.vx_ports_rings.specs.declared.ring.RingOut.{RingOut}
use Rattle.vx_exec_threads.specs.declared.inlet.Inlet.{Inlet}
use Rattle.vx_exec_threads.specs.declared.drawer.Drawer.{Drawer}
use Rattle.vx_exec_threads.specs.declared.drawer.Dealer.{Dealer}
use Rattle.vx_exec_threads.specs.declared.deck_place.DeckPlace.{DeckPlace}
use Rattle.vx_exec_threads.specs.Drawers.{Sits}
use Rattle.vx_exec_threads.specs.Holds.{Hold, OutAt, InAt, DrawAt}
use Rattle.vx_exec_threads.specs.Joined.{PairAt}
use Rattle.vx_exec_threads.specs.Paired.{IsRingOf}
use Rattle.vx_exec_threads.specs.Wired.{AllSeated}
use Rattle.vx_exec_wiring.specs.Giving.{GainsDrawer, GainsInlet, GivesEach}
use Rattle.vx_exec_wiring.specs.Making.{Made, HoldsOn, Keeps, IsDealt, IsMade}
use Rattle.vx_exec_wiring.proofs.Places.{get-front, get-below}
use Rattle.vx_exec_wiring.proofs.Each.{each-forth}

pub on-self : (h : Hold) → HoldsOn h h
on-self h = record { outs = λ j o e. e; ins = λ k e q. q; draws = λ k x e. e }

pub on-then : (a b c : Hold) → HoldsOn a b → HoldsOn b c → HoldsOn a c
on-then a b c x y = record {
  outs = λ j o e. y.outs j o (x.outs j o e);
  ins = λ k e q. y.ins k e (x.ins k e q);
  draws = λ k z e. y.draws k z (x.draws k z e);
}

pub on-drawer : (x : Drawer) (h g : Hold) → GainsDrawer x h g → HoldsOn h g
on-drawer x h g e =
    subst (λ z. HoldsOn h z) (sym e) (record { outs = λ j o q. q; ins = λ k y q. q; draws = λ k y q. get-front h.draws (x ∷ []) k y q })

pub on-inlet : (x : Inlet) (h g : Hold) → GainsInlet x h g → HoldsOn h g
on-inlet x h g e =
    subst (λ z. HoldsOn h z) (sym e) (record { outs = λ j o q. q; ins = λ k y q. get-front h.ins (x ∷ []) k y q; draws = λ k y q. q })

-- each worker of before is one, with what it held
abbrev pub AllOn : List Hold → List Hold → Type 0
AllOn hs gs = (a : ℕ) (h : Hold) → slice_get hs a ≡ Some h → (g : Hold) × (slice_get gs a ≡ Some g) × HoldsOn h g

pub each-on : (P : ℕ → Hold → Hold → Type 0) (old : List Hold) (top count : ℕ) (new : List Hold) → ((w : ℕ) (h g : Hold) → P w h g → HoldsOn h g)
    → GivesEach P old top count new → AllOn old new
each-on P old top count new on x a h e = elim (each-forth P old top count new x a h e) [
  | inl q ↦ (h, q, on-self h)
  | inr q ↦ (q.1, q.4, on q.0 h q.1 q.5)
]

pub on-snoc : (old new : List Hold) (g : Hold) → AllOn old new → AllOn old (new ++ g ∷ [])
on-snoc old new g x a h e = let z = x a h e in (z.0, get-front new (g ∷ []) a z.0 z.1, z.2)

pub keeps-self : (m : Made) → Keeps m m
keeps-self m = record { holds = λ a h e. (h, e, on-self h); decks = λ k d e. e; places = λ k q e. e }

pub keeps-then : (a b c : Made) → Keeps a b → Keeps b c → Keeps a c
keeps-then a b c x y = record {
  holds = λ i h e. let u = x.holds i h e in let v = y.holds i u.0 u.1 in (v.0, v.1, on-then h u.0 v.0 u.2 v.2);
  decks = λ k d e. y.decks k d (x.decks k d e);
  places = λ k q e. y.places k q (x.places k q e);
}

-- a seat stays one of its deck
pub sits-on : (ds es : List DeckView) → ((k : ℕ) (d : DeckView) → slice_get ds k ≡ Some d → slice_get es k ≡ Some d) → (x : Drawer) → Sits ds x → Sits es x
sits-on ds es on x h k s e =
    let z = h k s e in
    let at = get-below ds k z.0 in
    let there = on k at.0 at.1 in (
      slice_get_within es k at.0 there,
      λ d. subst (λ (y : DeckView). IsSeatOf y s) (get_or_from_slice_get ds k at.0 d at.1 ∙ sym (get_or_from_slice_get es k at.0 d there)) (z.1 d),
    )

module _ (old new : List Hold) (on : AllOn old new) where
  pub out-on : (a j : ℕ) (o : RingOut) → OutAt old a j o → OutAt new a j o
  out-on a j o x = let z = on a x.hold x.worker in record { hold = z.0; worker = z.1; place = z.2.outs j o x.place }

  pub in-on : (b n i : ℕ) (e : Inlet) → InAt old b n i e → InAt new b n i e
  in-on b n i e x =
      let z = on b x.hold x.worker in
      record { hold = z.0; worker = z.1; k = x.k; place = z.2.ins x.k e x.place; exchange = x.exchange; from = x.from }

  pub draw-on : (a n : ℕ) (d : Dealer) → DrawAt old a n d → DrawAt new a n d
  draw-on a n d x =
      let z = on a x.hold x.worker in
      record { hold = z.0; worker = z.1; k = x.k; x = x.x; place = z.2.draws x.k x.x x.place; scan = x.scan; dealer = x.dealer }

  pub pair-on : (a j b n i : ℕ) → PairAt IsRingOf old a j b n i → PairAt IsRingOf new a j b n i
  pair-on a j b n i x = (x.0, x.1, out-on a j x.0 x.2, in-on b n i x.1 x.3, x.4)

  pub seated-on : (ds : List DeckView) (qs : List DeckPlace) → AllSeated ds qs old → AllSeated ds qs new
  seated-on ds qs h k d q ed eq =
      let x = h k d q ed eq in
      (x.0, λ w l. let y = x.1 w l in (y.0, draw-on (q.first + w) q.scan _ y.1, y.2))

-- what was made stays made
module _ (counts : ℕ → ℕ) (old new : Made) (x : Keeps old new) where
  dealt-on : (s : ScanSpan) (is_shared : Bool) → IsDealt counts old s is_shared → IsDealt counts new s is_shared
  dealt-on s true h = record {
    k = h.k;
    deck = h.deck;
    here = x.decks h.k h.deck h.here;
    morsels = h.morsels;
    at = h.at;
    place = x.places h.k h.at h.place;
    scan = h.scan;
    first = h.first;
    workers = h.workers;
  }
  dealt-on s false h = λ w l. let y = h w l in (y.0, draw-on old.holds new.holds x.holds (s.first + w) s.number _ y.1, y.2)

  pub made-on : (s : NodeSpan) → IsMade counts old s → IsMade counts new s
  made-on Inner h = tt
  made-on (Exchange e) h = λ i j li lj. pair-on old.holds new.holds x.holds (e.below + i) j (e.above + j) e.number i (h i j li lj)
  made-on (Scan s) h = dealt-on s s.is_shared h
