-- Workers that are given something each, one after the other (our own).
use Rattle.std.proofs.Common.{ℕ, ◌≡◌, ◌≢◌, ◌<◌, ◌≤◌, ◌+◌, ◌-◌, ◌⊎◌, List, [], ◌∷◌, ◌++◌, Some, sym, ap, ◌∙◌, subst, arith, inl, inr, slice_get}
use Rattle.std.proofs.lemmas.Bool.{cases_eq, cases_lt}
use Rattle.std.proofs.lemmas.Option.{slice_get_within}
use Rattle.std.proofs.lemmas.List.{length_push}
use Rattle.vx_exec_layout.specs.declared.span.ExchangeSpan.{ExchangeSpan}
use Rattle.vx_ports_rings.specs.Ends.{put_to}
use Rattle.vx_ports_rings.specs.declared.ring.RingOut.{RingOut}
use Rattle.vx_exec_threads.specs.declared.inlet.Inlet.{Inlet}
use Rattle.vx_exec_threads.specs.Holds.{Hold}
use Rattle.vx_exec_wiring.specs.Giving.{GivesAt, GivesEach, GainsInlet, IsNewRing, GainsRing, MakesRings}
use Rattle.vx_exec_wiring.proofs.Places.{one-place, get-front, get-last, get-snoc, get-below}

-- one worker more
pub each-more : (P Q : ℕ → Hold → Hold → Type 0) (R : Hold → Hold → Type 0) (old : List Hold) (top count : ℕ) (mid new : List Hold)
    → ((w : ℕ) (h g : Hold) → w < count → P w h g → Q w h g) → ((h g : Hold) → R h g → Q count h g)
    → GivesEach P old top count mid → GivesAt R mid (top + count) new → GivesEach Q old top (count + 1) new
each-more P Q R old top count mid new pq rq x y = record {
  length_is = y.length_is ∙ x.length_is;
  here = λ w l h e. elim (cases_eq w count) [
    | inl q ↦
        let at : slice_get mid (top + count) ≡ Some h =
        x.others (top + count) (inr (omega arith)) ∙ subst (λ (v : ℕ). slice_get old (top + v) ≡ Some h) q e in
        let z = y.here h at in
        (z.0, subst (λ (v : ℕ). slice_get new (top + v) ≡ Some z.0) (sym q) z.1, subst (λ (v : ℕ). Q v h z.0) (sym q) (rq h z.0 z.2))
    | inr ne ↦
        let less : w < count = omega (arith, l, ne) in
        let z = x.here w less h e in
        (z.0, y.others (top + w) (λ q. ne (omega (arith, q))) ∙ z.1, pq w h z.0 less z.2)
  ];
  others = λ b h.
      let away : b ≢ top + count = λ q. elim h [ inl l ↦ omega (arith, l, q) | inr l ↦ omega (arith, l, q) ] in
      let apart : (b < top) ⊎ (top + count ≤ b) = elim h [ inl l ↦ inl l | inr l ↦ inr (omega (arith, l)) ] in
      y.others b away ∙ x.others b apart;
}

-- what a worker holds afterwards
pub each-forth : (P : ℕ → Hold → Hold → Type 0) (old : List Hold) (top count : ℕ) (new : List Hold) → GivesEach P old top count new
    → (a : ℕ) (h : Hold) → slice_get old a ≡ Some h
    → (slice_get new a ≡ Some h) ⊎ ((w : ℕ) × (g : Hold) × (w < count) × (a ≡ top + w) × (slice_get new a ≡ Some g) × P w h g)
each-forth P old top count new x a h e = elim (cases_lt a top) [
  | inl l ↦ inl (x.others a (inl l) ∙ e)
  | inr l ↦ elim (cases_lt a (top + count)) [
    | inr k ↦ inl (x.others a (inr k) ∙ e)
    | inl k ↦
        let is : a ≡ top + (a - top) = omega (arith, l) in
        let less : a - top < count = omega (arith, l, k) in
        let z = x.here (a - top) less h (subst (λ (b : ℕ). slice_get old b ≡ Some h) is e) in
        inr (a - top, z.0, less, is, subst (λ (b : ℕ). slice_get new b ≡ Some z.0) (sym is) z.1, z.2)
  ]
]

-- what it held before
pub each-back : (P : ℕ → Hold → Hold → Type 0) (old : List Hold) (top count : ℕ) (new : List Hold) → GivesEach P old top count new
    → (a : ℕ) (g : Hold) → slice_get new a ≡ Some g
    → (slice_get old a ≡ Some g) ⊎ ((w : ℕ) × (h : Hold) × (w < count) × (slice_get old a ≡ Some h) × P w h g)
each-back P old top count new x a g e =
    let in_new = slice_get_within new a g e in
    let same = x.length_is in
    let was = get-below old a (omega (arith, in_new, same)) in
    elim (each-forth P old top count new x a was.0 was.1) [
      | inl q ↦ inl (was.1 ∙ ap Some (one-place new a was.0 g q e))
      | inr q ↦ inr (q.0, was.0, q.2, was.1, subst (λ z. P q.0 was.0 z) (one-place new a q.1 g q.4 e) q.5)
    ]

-- one ring more
pub rings-more : (x : ExchangeSpan) (i : ℕ) (old : List Hold) (count : ℕ) (outs : List RingOut) (mid new : List Hold) (o : RingOut) (e : Inlet)
    → MakesRings x i old count outs mid → IsNewRing x.number i o e → GivesAt (GainsInlet e) mid (x.above + count) new
    → MakesRings x i old (count + 1) (outs ++ o ∷ []) new
rings-more x i old count outs mid new o e made ring y = record {
  length_is = length_push outs o ∙ ap (λ (k : ℕ). k + 1) made.length_is;
  fresh = λ j z h. elim (get-snoc outs o j z h) [
    | inl q ↦ made.fresh j z q
    | inr q ↦ ap put_to q.1 ∙ ring.put
  ];
  given = each-more (GainsRing x.number i outs) (GainsRing x.number i (outs ++ o ∷ [])) (GainsInlet e) old x.above count mid new
      (λ w h g l r. record { out = r.out; inlet = r.inlet; at = get-front outs (o ∷ []) w r.out r.at; ring = r.ring; gains = r.gains })
      (λ h g r. record {
        out = o;
        inlet = e;
        at = subst (λ (k : ℕ). slice_get (outs ++ o ∷ []) k ≡ Some o) made.length_is (get-last outs o);
        ring = ring;
        gains = r;
      })
      made.given y;
}
