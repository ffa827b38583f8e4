-- Each event keeps what a thread's ends carried.
use Rattle.std.proofs.Common.{ℕ, zero, suc, ◌≡◌, ◌≢◌, ◌<◌, ◌≤◌, ◌⊎◌, true, false, ◌==◌, ◌&&◌, Bool, List, [], ◌∷◌, ◌++◌, length, Option, Some, None, IfSome, IfNone, refl, sym, ap, ◌∙◌, subst, arith, inl, inr, slice_get, eqb-true, true≢false}
use Rattle.std.proofs.Math.ListN.{set}
use Rattle.std.proofs.lemmas.Bool.Decides.{eqb_tells}
use Rattle.std.proofs.lemmas.Bool.{cases_eq, cases_lt}
use Rattle.std.proofs.lemmas.Option.{slice_get_within, get_or_from_slice_get}
use Rattle.std.specs.List.{All}
use Rattle.vx_ports.specs.Packets.{PacketView}
use Rattle.vx_ops.specs.Turn.{with_packet}
use Rattle.vx_worker.specs.Trace.{Trace, idle, drew_one, took_one, put_one, added, drawn}
use Rattle.vx_ports_rings.specs.Ends.{put_to, taken_from, room_of, seen_by, SameOut, PutsInRing, FindsFull}
use Rattle.vx_ports_rings.specs.declared.ring.RingOut.{RingOut}
use Rattle.vx_exec_threads.specs.declared.inlet.Inlet.{Inlet}
use Rattle.vx_exec_threads.specs.declared.drawer.Drawer.{Drawer}
use Rattle.vx_exec_threads.specs.Inlets.{is_way, SameInlet, KeepsIn, TakesIn, FindsNoneIn}
use Rattle.vx_exec_threads.specs.Drawers.{DealsAs, SameDealer, SameDrawer, Dealt}
use Rattle.vx_exec_threads.specs.declared.drawer.Dealer.{Dealer}
use Rattle.vx_exec_threads.specs.declared.drawer.Dealer.TheVariants as dealer
use Rattle.vx_exec_threads.specs.Holds.{Hold, IsApart, SameEnds}
use Rattle.vx_exec_threads.specs.Carrying.{Carries}
use Rattle.vx_ports.specs.Packets.{is_closed}
use Rattle.vx_ports.specs.Puts.{PutOutcome, IsDone}
use Rattle.vx_ports.specs.declared.port.Put.{Put}
use Rattle.vx_ports.specs.declared.port.Put.TheVariants as put
use Rattle.vx_worker.specs.Trace.{Event}
use Rattle.vx_worker.specs.Wiring.{PutGives}
use Rattle.vx_ports_rings.specs.Never.{IsNeverNoMemory}
use Rattle.vx_exec_threads.specs.Carrying.{hold_of, Does, IsFullAt}
use Rattle.vx_exec_threads.specs.declared.ends.Ends.{Ends}
use Rattle.vx_exec_threads.proofs.Keeping.{same-self, same-then}

some-is : {A : Type 0} (x y : A) → Some x ≡ Some y → x ≡ y
some-is x y e = cc

none-some : {A : Type 0} (x : A) → None ≡ Some x → ⊥
none-some x e = cc

-- what is read after a set
pub get-set : {A : Type 0} (xs : List A) (k : ℕ) (y : A) (l : ℕ) (z : A) → slice_get (set xs k y) l ≡ Some z → ((l ≡ k) × (z ≡ y)) ⊎ ((l ≢ k) × (slice_get xs l ≡ Some z))
get-set [] k y l z e = absurd (none-some z e)
get-set (x ∷ xs) zero y zero z e = inl (refl, sym (some-is y z e))
get-set (x ∷ xs) zero y (suc l) z e = inr ((λ h. absurd (omega (arith, h))), e)
get-set (x ∷ xs) (suc k) y zero z e = inr ((λ h. absurd (omega (arith, h))), e)
get-set (x ∷ xs) (suc k) y (suc l) z e = elim (get-set xs k y l z e) [
  | inl h ↦ inl (ap suc h.0, h.1)
  | inr h ↦ inr ((λ q. h.0 (omega (arith, q))), h.1)
]

pub set-here : {A : Type 0} (xs : List A) (k : ℕ) (x y : A) → slice_get xs k ≡ Some x → slice_get (set xs k y) k ≡ Some y
set-here [] k x y e = absurd (none-some x e)
set-here (z ∷ xs) zero x y e = refl
set-here (z ∷ xs) (suc k) x y e = set-here xs k x y e

pub set-other : {A : Type 0} (xs : List A) (k : ℕ) (y : A) (l : ℕ) → l ≢ k → slice_get (set xs k y) l ≡ slice_get xs l
set-other [] k y l ne = refl
set-other (z ∷ xs) zero y zero ne = absurd (ne refl)
set-other (z ∷ xs) zero y (suc l) ne = refl
set-other (z ∷ xs) (suc k) y zero ne = refl
set-other (z ∷ xs) (suc k) y (suc l) ne = set-other xs k y l (λ e. ne (ap suc e))

-- one element changed to one like it
pub same-set : {A : Type 0} (R : A → A → Type 0) → ((x : A) → R x x) → (xs : List A) (k : ℕ) (x y : A) → slice_get xs k ≡ Some x → R x y
    → (l : ℕ) (z : A) → slice_get xs l ≡ Some z → (w : A) × (slice_get (set xs k y) l ≡ Some w) × R z w
same-set R self xs k x y at r l z e = elim (cases_eq l k) [
  | inl q ↦
      let here : slice_get (set xs k y) l ≡ Some y = subst (λ n. slice_get (set xs k y) n ≡ Some y) (sym q) (set-here xs k x y at) in
      let zx : x ≡ z = some-is x z (sym at ∙ ap (slice_get xs) (sym q) ∙ e) in
      (y, here, subst (λ n. R n y) zx r)
  | inr ne ↦ (z, set-other xs k y l ne ∙ e, self z)
]

pub same-all : {A : Type 0} (R : A → A → Type 0) → ((x : A) → R x x) → (xs : List A) (l : ℕ) (z : A) → slice_get xs l ≡ Some z → (w : A) × (slice_get xs l ≡ Some w) × R z w
same-all R self xs l z e = (z, e, self z)

pub same-out-self : (o : RingOut) → SameOut o o
same-out-self o = ((refl, refl, refl, refl), refl)

pub same-dealer-self : (d : Dealer) → SameDealer d d
same-dealer-self (dealer.Seat k s) = (refl, refl, refl)
same-dealer-self (dealer.Hand h) = refl

pub same-drawer-self : (x : Drawer) → SameDrawer x x
same-drawer-self x = record { scan = refl; dealer = same-dealer-self x.dealer }

-- elements that are told apart by a number each stay so
apart-set : {A : Type 0} (f g : A → ℕ) (xs : List A) (k : ℕ) (x y : A) → slice_get xs k ≡ Some x → f y ≡ f x → g y ≡ g x
    → ((i j : ℕ) (a b : A) → slice_get xs i ≡ Some a → slice_get xs j ≡ Some b → f a ≡ f b → g a ≡ g b → i ≡ j)
    → (i j : ℕ) (a b : A) → slice_get (set xs k y) i ≡ Some a → slice_get (set xs k y) j ≡ Some b → f a ≡ f b → g a ≡ g b → i ≡ j
apart-set {A} f g xs k x y at ef eg h i j a b ea eb ff gg =
    let u = was i a ea in
    let v = was j b eb in
    h i j u.0 v.0 u.1 v.1 (sym u.2 ∙ ff ∙ v.2) (sym u.3 ∙ gg ∙ v.3)
  where
    was : (l : ℕ) (z : A) → slice_get (set xs k y) l ≡ Some z → (w : A) × (slice_get xs l ≡ Some w) × (f z ≡ f w) × (g z ≡ g w)
    was l z e = elim (get-set xs k y l z e) [
      | inl q ↦ (x, subst (λ n. slice_get xs n ≡ Some x) (sym q.0) at, ap f q.1 ∙ ef, ap g q.1 ∙ eg)
      | inr q ↦ (z, q.1, refl, refl)
    ]

with-here : (f : ℕ → List PacketView) (j : ℕ) (p : PacketView) (k : ℕ) → k ≡ j → with_packet f j (Some p) k ≡ f k ++ p ∷ []
with-here f j p k e = elim (eqb_tells k j) [ inl q ↦ rw q.0 refl | inr q ↦ absurd (q.1 e) ]

with-other : (f : ℕ → List PacketView) (j : ℕ) (p : PacketView) (k : ℕ) → k ≢ j → with_packet f j (Some p) k ≡ f k
with-other f j p k e = elim (eqb_tells k j) [ inl q ↦ absurd (e q.1) | inr q ↦ rw q.0 refl ]

came-here : (t : Trace) (x i : ℕ) (p : PacketView) (y l : ℕ) → y ≡ x → l ≡ i → (added t (took_one x i (Some p))).came y l ≡ t.came y l ++ p ∷ []
came-here t x i p y l ey el = elim (eqb_tells y x) [
  | inl q ↦ rw q.0 (with-here (t.came y) i p l el)
  | inr q ↦ absurd (q.1 ey)
]

came-other : (t : Trace) (x i : ℕ) (p : PacketView) (y l : ℕ) → ((y ≡ x) × (l ≡ i) → ⊥) → (added t (took_one x i (Some p))).came y l ≡ t.came y l
came-other t x i p y l ne = elim (eqb_tells y x) [
  | inl q ↦ rw q.0 (with-other (t.came y) i p l (λ e. ne (q.1, e)))
  | inr q ↦ rw q.0 refl
]

none-came : (t : Trace) (x i y l : ℕ) → (added t (took_one x i None)).came y l ≡ t.came y l
none-came t x i y l = elim (eqb_tells y x) [ inl q ↦ rw q.0 refl | inr q ↦ rw q.0 refl ]

drew-here : (t : Trace) (k : ℕ) (n : Option ℕ) (l : ℕ) → l ≡ k → (added t (drew_one k n)).drew l ≡ drawn (t.drew l) n
drew-here t k n l e = elim (eqb_tells l k) [ inl q ↦ rw q.0 refl | inr q ↦ absurd (q.1 e) ]

drew-other : (t : Trace) (k : ℕ) (n : Option ℕ) (l : ℕ) → l ≢ k → (added t (drew_one k n)).drew l ≡ t.drew l
drew-other t k n l ne = elim (eqb_tells l k) [ inl q ↦ absurd (ne q.1) | inr q ↦ rw q.0 refl ]

-- nothing happened
pub carries-idle : (a : Hold) → Carries a idle a
carries-idle a = record {
  same = record { outs = same-all SameOut same-out-self a.outs; ins = same-all SameInlet same-self a.ins; draws = same-all SameDrawer same-drawer-self a.draws };
  bears = λ t h. h;
  finds = tt;
}

-- a packet was put
pub carries-put : (a : Hold) (j : ℕ) (p : PacketView) (o x : RingOut) → slice_get a.outs j ≡ Some o → SameOut o x → put_to x ≡ put_to o ++ p ∷ []
    → Carries a (put_one j p) (record { outs = set a.outs j x; ins = a.ins; draws = a.draws })
carries-put a j p o x at same put = record {
  same = record { outs = same-set SameOut same-out-self a.outs j o x at same; ins = same-all SameInlet same-self a.ins; draws = same-all SameDrawer same-drawer-self a.draws };
  bears = λ t h. record {
    apart = record { ins = h.apart.ins; draws = h.apart.draws };
    outs = λ l z e. elim (get-set a.outs j x l z e) [
      | inl q ↦ ap put_to q.1 ∙ put ∙ ap (λ ps. ps ++ p ∷ []) (h.outs j o at) ∙ ap (λ n. t.sent n ++ p ∷ []) (sym q.0) ∙ sym (with-here t.sent j p l q.0)
      | inr q ↦ h.outs l z q.1 ∙ sym (with-other t.sent j p l q.0)
    ];
    ins = h.ins;
    draws = h.draws;
  };
  finds = tt;
}

-- a put that was refused
pub carries-full : (a : Hold) (j : ℕ) (o x : RingOut) → slice_get a.outs j ≡ Some o → SameOut o x → put_to x ≡ put_to o → Carries a idle (record { outs = set a.outs j x; ins = a.ins; draws = a.draws })
carries-full a j o x at same put = record {
  same = record { outs = same-set SameOut same-out-self a.outs j o x at same; ins = same-all SameInlet same-self a.ins; draws = same-all SameDrawer same-drawer-self a.draws };
  bears = λ t h. record {
    apart = record { ins = h.apart.ins; draws = h.apart.draws };
    outs = λ l z e. elim (get-set a.outs j x l z e) [
      | inl q ↦ ap put_to q.1 ∙ put ∙ h.outs j o at ∙ ap t.sent (sym q.0)
      | inr q ↦ h.outs l z q.1
    ];
    ins = h.ins;
    draws = h.draws;
  };
  finds = tt;
}

-- a packet was taken
pub carries-take : (a : Hold) (k x i : ℕ) (p : PacketView) (e f : Inlet) → slice_get a.ins k ≡ Some e → e.exchange ≡ x → e.from ≡ i → TakesIn e p f
    → Carries a (took_one x i (Some p)) (record { outs = a.outs; ins = set a.ins k f; draws = a.draws })
carries-take a k x i p e f at ex ei takes = record {
  same = record { outs = same-all SameOut same-out-self a.outs; ins = same-set SameInlet same-self a.ins k e f at takes.same; draws = same-all SameDrawer same-drawer-self a.draws };
  bears = λ t h. record {
    apart = record {
      ins = apart-set (λ (z : Inlet). z.exchange) (λ (z : Inlet). z.from) a.ins k e f at takes.same.exchange takes.same.from h.apart.ins;
      draws = h.apart.draws;
    };
    outs = h.outs;
    ins = λ l z g. elim (get-set a.ins k f l z g) [
      | inl q ↦
          let was = takes.came (t.came e.exchange e.from) (h.ins k e at) in
          let now : taken_from f.ring ≡ (added t (took_one x i (Some p))).came f.exchange f.from ++ f.queue.items =
          was ∙ ap (λ (ps : List PacketView). ps ++ f.queue.items)
          (ap (λ n. t.came n e.from ++ p ∷ []) (sym takes.same.exchange) ∙ ap (λ n. t.came f.exchange n ++ p ∷ []) (sym takes.same.from)
          ∙ sym (came-here t x i p f.exchange f.from (takes.same.exchange ∙ ex) (takes.same.from ∙ ei)))
          in
          subst (λ (w : Inlet). taken_from w.ring ≡ (added t (took_one x i (Some p))).came w.exchange w.from ++ w.queue.items) (sym q.1) now
      | inr q ↦
          h.ins l z q.1
          ∙ ap (λ (ps : List PacketView). ps ++ z.queue.items)
          (sym (came-other t x i p z.exchange z.from (λ w. q.0 (h.apart.ins l k z e q.1 at (w.0 ∙ sym ex) (w.1 ∙ sym ei)))))
    ];
    draws = h.draws;
  };
  finds = tt;
}

-- packets moved from one ring to its queue
pub carries-gather : (a : Hold) (k : ℕ) (e f : Inlet) → slice_get a.ins k ≡ Some e → KeepsIn e f → Carries a idle (record { outs = a.outs; ins = set a.ins k f; draws = a.draws })
carries-gather a k e f at keeps = record {
  same = record { outs = same-all SameOut same-out-self a.outs; ins = same-set SameInlet same-self a.ins k e f at keeps.same; draws = same-all SameDrawer same-drawer-self a.draws };
  bears = λ t h. record {
    apart = record {
      ins = apart-set (λ (z : Inlet). z.exchange) (λ (z : Inlet). z.from) a.ins k e f at keeps.same.exchange keeps.same.from h.apart.ins;
      draws = h.apart.draws;
    };
    outs = h.outs;
    ins = λ l z g. elim (get-set a.ins k f l z g) [
      | inl q ↦
          let now : taken_from f.ring ≡ t.came f.exchange f.from ++ f.queue.items =
          keeps.came (t.came e.exchange e.from) (h.ins k e at)
          ∙ ap (λ n. t.came n e.from ++ f.queue.items) (sym keeps.same.exchange) ∙ ap (λ n. t.came f.exchange n ++ f.queue.items) (sym keeps.same.from)
          in
          subst (λ (w : Inlet). taken_from w.ring ≡ t.came w.exchange w.from ++ w.queue.items) (sym q.1) now
      | inr q ↦ h.ins l z q.1
    ];
    draws = h.draws;
  };
  finds = tt;
}

-- no packet was there
carries-none : (a : Hold) (k x i : ℕ) (e f : Inlet) → slice_get a.ins k ≡ Some e → e.exchange ≡ x → e.from ≡ i → FindsNoneIn e f
    → Carries a (took_one x i None) (record { outs = a.outs; ins = set a.ins k f; draws = a.draws })
carries-none a k x i e f at ex ei none =
    let keeps = none.keeps in
    let moved = carries-gather a k e f at keeps in
    record {
      same = moved.same;
      bears = λ t h.
          let b = moved.bears t h in
          record {
            apart = b.apart;
            outs = b.outs;
            ins = λ l z g. b.ins l z g ∙ ap (λ (ps : List PacketView). ps ++ z.queue.items) (sym (none-came t x i z.exchange z.from));
            draws = b.draws;
          };
      finds = λ apart l z g zx zi. elim (get-set a.ins k f l z g) [
        | inl q ↦ subst (λ (y : Inlet). (y.queue.items ≡ []) × (seen_by y.ring ≡ [])) (sym q.1) (none.queue.1, none.ring.1)
        | inr q ↦ absurd (q.0 (apart.ins l k z f g (set-here a.ins k e f at) (zx ∙ sym (keeps.same.exchange ∙ ex)) (zi ∙ sym (keeps.same.from ∙ ei))))
      ];
    }

way-is : (e : Inlet) (x i : ℕ) → e.exchange ≡ x → e.from ≡ i → is_way e x i ≡ true
way-is e x i ex ei = elim (eqb_tells e.exchange x) [
  | inl q ↦ elim (eqb_tells e.from i) [ inl r ↦ rw q.0 (rw r.0 refl) | inr r ↦ absurd (r.1 ei) ]
  | inr q ↦ absurd (q.1 ex)
]

-- there is no such inlet
pub carries-stranger : (a : Hold) (x i : ℕ) → All (λ (e : Inlet). is_way e x i ≡ false) a.ins → Carries a (took_one x i None) a
carries-stranger a x i none = record {
  same = (carries-idle a).same;
  bears = λ t h. record {
    apart = h.apart;
    outs = h.outs;
    ins = λ l z e. h.ins l z e ∙ ap (λ (ps : List PacketView). ps ++ z.queue.items) (sym (none-came t x i z.exchange z.from));
    draws = h.draws;
  };
  finds = λ apart l z e zx zi.
      let no : is_way z x i ≡ false = subst (λ (y : Inlet). is_way y x i ≡ false) (get_or_from_slice_get a.ins l z z e) (none l z (slice_get_within a.ins l z e)) in
      absurd (true≢false (sym (way-is z x i zx zi) ∙ no));
}

-- a number was drawn, or the end was met
pub carries-draw : (a : Hold) (k n : ℕ) (r : Option ℕ) (e f : Drawer) → slice_get a.draws k ≡ Some e → e.scan ≡ n → Dealt e r f
    → Carries a (drew_one n r) (record { outs = a.outs; ins = a.ins; draws = set a.draws k f })
carries-draw a k n r e f at en dealt = record {
  same = record { outs = same-all SameOut same-out-self a.outs; ins = same-all SameInlet same-self a.ins; draws = same-set SameDrawer same-drawer-self a.draws k e f at dealt.same };
  bears = λ t h. record {
    apart = record {
      ins = h.apart.ins;
      draws = λ i j b c eb ec s. apart-set (λ (z : Drawer). z.scan) (λ (z : Drawer). 0) a.draws k e f at dealt.same.scan refl (λ i j b c eb ec s o. h.apart.draws i j b c eb ec s) i j b c eb ec s refl;
    };
    outs = h.outs;
    ins = h.ins;
    draws = λ l z g. elim (get-set a.draws k f l z g) [
      | inl q ↦
          let now : DealsAs f.dealer (drawn (t.drew e.scan) r) = dealt.deals (t.drew e.scan) (h.draws k e at) in
          let is : drawn (t.drew e.scan) r ≡ (added t (drew_one n r)).drew f.scan =
          ap (λ m. drawn (t.drew m) r) (sym dealt.same.scan) ∙ sym (drew-here t n r f.scan (dealt.same.scan ∙ en))
          in
          subst (λ (w : Drawer). DealsAs w.dealer ((added t (drew_one n r)).drew w.scan)) (sym q.1) (subst (λ d. DealsAs f.dealer d) is now)
      | inr q ↦
          let other : (added t (drew_one n r)).drew z.scan ≡ t.drew z.scan = drew-other t n r z.scan (λ w. q.0 (h.apart.draws l k z e q.1 at (w ∙ sym en))) in
          subst (λ d. DealsAs z.dealer d) (sym other) (h.draws l z q.1)
    ];
  };
  finds = tt;
}

same-out-then : (a b c : RingOut) → SameOut a b → SameOut b c → SameOut a c
same-out-then a b c x y = ((y.0.0 ∙ x.0.0, y.0.1 ∙ x.0.1, y.0.2 ∙ x.0.2, y.0.3 ∙ x.0.3), y.1 ∙ x.1)

same-dealer-then : (a b c : Dealer) → SameDealer a b → SameDealer b c → SameDealer a c
same-dealer-then (dealer.Seat i a) (dealer.Seat j b) (dealer.Seat k c) x y = (y.0 ∙ x.0, y.1 ∙ x.1, y.2 ∙ x.2)
same-dealer-then (dealer.Hand a) (dealer.Hand b) (dealer.Hand c) x y = y ∙ x
same-dealer-then (dealer.Seat i a) (dealer.Hand b) c x y = absurd x
same-dealer-then (dealer.Hand a) (dealer.Seat j b) c x y = absurd x
same-dealer-then (dealer.Seat i a) (dealer.Seat j b) (dealer.Hand c) x y = absurd y
same-dealer-then (dealer.Hand a) (dealer.Hand b) (dealer.Seat k c) x y = absurd y

pub ends-then : (a b c : Hold) → SameEnds a b → SameEnds b c → SameEnds a c
ends-then a b c x y = record {
  outs = λ j o e. let u = x.outs j o e in let v = y.outs j u.0 u.1 in (v.0, v.1, same-out-then o u.0 v.0 u.2 v.2);
  ins = λ j o e. let u = x.ins j o e in let v = y.ins j u.0 u.1 in (v.0, v.1, same-then o u.0 v.0 u.2 v.2);
  draws = λ j o e.
      let u = x.draws j o e in
      let v = y.draws j u.0 u.1 in
      (v.0, v.1, record { scan = v.2.scan ∙ u.2.scan; dealer = same-dealer-then o.dealer u.0.dealer v.0.dealer u.2.dealer v.2.dealer });
}

-- first nothing, and then an event
pub carries-then : (a b c : Hold) (e : Event) → Carries a idle b → Carries b e c → Carries a e c
carries-then a b c e x y = record { same = ends-then a b c x.same y.same; bears = λ t h. y.bears t (x.bears t h); finds = y.finds }

both : (a b : Bool) → (a && b) ≡ true → (a ≡ true) × (b ≡ true)
both true b e = (refl, e)
both false b e = absurd (true≢false (sym e))

-- a take, whatever came
pub carries-taken : (a : Hold) (k x i : ℕ) (r : Option PacketView) (e f : Inlet) → slice_get a.ins k ≡ Some e → is_way e x i ≡ true → IfSome r (λ p. TakesIn e p f) → IfNone r (FindsNoneIn e f)
    → Carries a (took_one x i r) (record { outs = a.outs; ins = set a.ins k f; draws = a.draws })
carries-taken a k x i None e f at way s n =
    let w = both (e.exchange == x) (e.from == i) way in
    carries-none a k x i e f at (eqb-true e.exchange x w.0) (eqb-true e.from i w.1) n
carries-taken a k x i (Some p) e f at way s n =
    let w = both (e.exchange == x) (e.from == i) way in
    carries-take a k x i p e f at (eqb-true e.exchange x w.0) (eqb-true e.from i w.1) s

-- where no place is known to be free, the port is full
no-room : (r : Put) (n : ℕ) → (0 < n → IsDone r) → (IsDone r → ⊥) → n ≡ 0
no-room r n done never = elim (cases_lt 0 n) [ inl l ↦ absurd (never (done l)) | inr l ↦ omega (arith, l) ]

full-at : (e : Ends) (j : ℕ) (o : RingOut) → slice_get e.outs.items j ≡ Some o → (is_closed (put_to o) ≡ true) ⊎ (room_of o ≡ 0) → IsFullAt e j
full-at e j o at h x is = subst (λ z. (is_closed (put_to z) ≡ true) ⊎ (room_of z ≡ 0)) (some-is o x (sym at ∙ is)) h

-- a put into a ring that was closed
pub full-closed : (e : Ends) (j : ℕ) (o : RingOut) → slice_get e.outs.items j ≡ Some o → is_closed (put_to o) ≡ true → IsFullAt e j
full-closed e j o at h = full-at e j o at (inl h)

-- a put to no consumer
pub full-beyond : (e : Ends) (j : ℕ) → length e.outs.items ≤ j → IsFullAt e j
full-beyond e j l o at = let w = slice_get_within e.outs.items j o at in absurd (omega (arith, l, w))

-- a put, whatever was answered
pub put-gives : (old new : Ends) (j : ℕ) (p : PacketView) (o x : RingOut) (r : Put) → slice_get old.outs.items j ≡ Some o
    → hold_of new ≡ record { outs = set old.outs.items j x; ins = old.ins.items; draws = old.draws.items }
    → PutOutcome p r (PutsInRing o p x) (FindsFull o x) → IsNeverNoMemory r → (0 < room_of o → IsDone r)
    → PutGives Does IsFullAt old new j p r
put-gives old new j p o x put.Done at is h n room = subst (λ z. Carries (hold_of old) (put_one j p) z) (sym is) (carries-put (hold_of old) j p o x at h.3 h.0)
put-gives old new j p o x (put.Full q) at is h n room = (
  h.0,
  full-at old j o at (inr (no-room (put.Full q) (room_of o) room (λ z. z))),
  subst (λ z. Carries (hold_of old) idle z) (sym is) (carries-full (hold_of old) j o x at h.1.2 h.1.0),
)
put-gives old new j p o x (put.NoMemory q) at is h n room = absurd n

-- no scan has this number
pub carries-no-scan : (a : Hold) (n : ℕ) → All (λ (x : Drawer). x.scan ≡ n → ⊥) a.draws → Carries a (drew_one n None) a
carries-no-scan a n none = record {
  same = (carries-idle a).same;
  bears = λ t h. record {
    apart = h.apart;
    outs = h.outs;
    ins = h.ins;
    draws = λ l z e.
        let no : z.scan ≡ n → ⊥ = subst (λ (y : Drawer). y.scan ≡ n → ⊥) (get_or_from_slice_get a.draws l z z e) (none l z (slice_get_within a.draws l z e)) in
        subst (λ d. DealsAs z.dealer d) (sym (drew-other t n None z.scan no)) (h.draws l z e);
  };
  finds = tt;
}

-- a scan has one drawer
pub one-drawer : (h : Hold) → IsApart h → (k l : ℕ) (x z : Drawer) → slice_get h.draws k ≡ Some x → slice_get h.draws l ≡ Some z → x.scan ≡ z.scan → z ≡ x
one-drawer h apart k l x z at bt e = some-is z x (sym bt ∙ ap (slice_get h.draws) (sym (apart.draws k l x z at bt e)) ∙ at)
