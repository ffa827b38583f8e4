-- What holds in each state to which a run comes, of each producer, its consumer and the ring between them.
use Rattle.std.proofs.Common.{ℕ, true, false, cond, ◌≡◌, ◌+◌, ◌<◌, ◌≤◌, ◌⊎◌, ◌==◌, ◌&&◌, refl, sym, subst, inl, inr, arith}
use Rattle.std.proofs.lemmas.Bool.Decides.{eqb_tells}
use Rattle.vx_exec_waking.specs.Crew.{Crew, draining, place_at, packet_of, Doing, going, waking, waiting, asleep, ended}
use Rattle.vx_exec_waking.specs.Crew.{WorkerState, RingState, World, on_worker, on_ring, WaitsFor, IsAsleep, Reads}
use Rattle.vx_exec_waking.specs.Events.{IsEmptied}

abbrev pub IsEnded : Doing → Type 0
IsEnded going = ⊥
IsEnded (waking p) = ⊥
IsEnded (waiting x) = ⊥
IsEnded (asleep x) = ⊥
IsEnded ended = Unit {0}

-- a closed ring has its last packet still, or that was taken
abbrev pub RingStands : RingState → Type 0
RingStands r =
    (r.seen ≤ r.packets) × (r.closed ≡ true → (r.over ≡ true) ⊎ (0 < r.packets + r.queued))
    × (r.over ≡ true → (r.closed ≡ true) × (r.packets ≡ 0))

-- what was put since the consumer looked, for that it has a token or is to be woken yet
abbrev pub LookedStands : (p c : ℕ) → (x y : WorkerState) → RingState → Type 0
LookedStands p c x y r = y.looked p ≡ true → (y.token ≡ true) ⊎ ((x.unwoken c ≡ true) ⊎ (r.packets ≡ 0))

-- a producer that found the ring full has a token, or is being woken, or the ring is full still, or the consumer knows of a packet that it has yet to take
abbrev pub PlaceStands : (slack p c : ℕ) → (x y : WorkerState) → RingState → Type 0
PlaceStands s p c x y r =
    WaitsFor (place_at c) x.doing
    → (r.closed ≡ false) × ((x.token ≡ true) ⊎ ((y.doing ≡ waking p) ⊎ ((s ≤ r.packets) ⊎ (0 < r.seen))))

-- a consumer that waits for a packet has not taken the last one, has none in its queue, and has looked
abbrev pub PacketStands : (p : ℕ) → WorkerState → RingState → Type 0
PacketStands p y r = WaitsFor (packet_of p) y.doing → (r.over ≡ false) × (r.queued ≡ 0) × (y.looked p ≡ true)

abbrev pub ProducerStands : (c : ℕ) → WorkerState → RingState → Type 0
ProducerStands c x r =
    (IsAsleep x.doing → x.unwoken c ≡ false) × (x.phase ≡ draining → r.closed ≡ true)
    × (IsEnded x.doing → (r.closed ≡ true) × (x.unwoken c ≡ false))

abbrev pub ConsumerStands : (p : ℕ) → WorkerState → RingState → Type 0
ConsumerStands p y r = (IsAsleep y.doing → IsEmptied y r p) × (IsEnded y.doing → r.over ≡ true)

pub record Pair (slack p c : ℕ) (x y : WorkerState) (r : RingState) : Type 0 where
  pub ring : RingStands r
  pub looked : LookedStands p c x y r
  pub place : PlaceStands slack p c x y r
  pub packet : PacketStands p y r
  pub producer : ProducerStands c x r
  pub consumer : ConsumerStands p y r

-- it waits for partners of its own, and for packets only where it reads
pub record Own (C : Crew) (a : ℕ) (x : WorkerState) : Type 0 where
  pub place : (c : ℕ) → WaitsFor (place_at c) x.doing → C.feeds a c ≡ true
  pub packet : (p : ℕ) → WaitsFor (packet_of p) x.doing → (C.feeds p a ≡ true) × Reads x.phase

pub record Stands (C : Crew) (w : World) : Type 0 where
  pub pairs : (p c : ℕ) → C.feeds p c ≡ true → Pair C.slack p c (w.worker p) (w.worker c) (w.ring p c)
  pub own : (a : ℕ) → Own C a (w.worker a)

pub at-cases : {A : Type 0} (P : A → Type 0) (a b : ℕ) (x y : A) → (b ≡ a → P x) → ((b ≡ a → ⊥) → P y) → P (cond (b == a) x y)
at-cases P a b x y here other = elim (eqb_tells b a) [ inl e ↦ rw e.0 (here e.1) | inr e ↦ rw e.0 (other e.1) ]

both-cases : {A : Type 0} (P : A → Type 0) (p q c b : ℕ) (x y : A) → (q ≡ p → b ≡ c → P x) → P y → P (cond ((q == p) && (b == c)) x y)
both-cases P p q c b x y here other = elim (eqb_tells q p) [
  | inl e ↦ elim (eqb_tells b c) [ inl f ↦ rw (e.0, f.0) (here e.1 f.1) | inr f ↦ rw (e.0, f.0) other ]
  | inr e ↦ rw e.0 other
]

pub worker-here : (w : World) (a : ℕ) (f : WorkerState → WorkerState) → (on_worker w a f).worker a ≡ f (w.worker a)
worker-here w a f = at-cases (λ x. x ≡ f (w.worker a)) a a (f (w.worker a)) (w.worker a) (λ e. refl) (λ n. absurd (n refl))

-- one worker changes: what stands as to its consumers, as to its producers, and by itself
pub keeps-worker : (C : Crew) (w : World) (a : ℕ) (f : WorkerState → WorkerState) → Stands C w
    → ((c : ℕ) → C.feeds a c ≡ true → Pair C.slack a c (w.worker a) (w.worker c) (w.ring a c) → Pair C.slack a c (f (w.worker a)) (w.worker c) (w.ring a c))
    → ((p : ℕ) → C.feeds p a ≡ true → Pair C.slack p a (w.worker p) (w.worker a) (w.ring p a) → Pair C.slack p a (w.worker p) (f (w.worker a)) (w.ring p a))
    → (Own C a (w.worker a) → Own C a (f (w.worker a)))
    → Stands C (on_worker w a f)
keeps-worker C w a f st producing consuming owning = record {
  pairs = λ p c fed.
      at-cases (λ x. Pair C.slack p c x (cond (c == a) (f (w.worker c)) (w.worker c)) (w.ring p c)) a p (f (w.worker p)) (w.worker p)
      (λ e. at-cases (λ y. Pair C.slack p c (f (w.worker p)) y (w.ring p c)) a c (f (w.worker c)) (w.worker c)
      (λ g. let l = C.numbered p c fed in absurd (omega (arith, l.0, e, g)))
      (λ n. subst (λ q. Pair C.slack q c (f (w.worker q)) (w.worker c) (w.ring q c)) (sym e)
      (producing c (subst (λ q. C.feeds q c ≡ true) e fed)
      (subst (λ q. Pair C.slack q c (w.worker q) (w.worker c) (w.ring q c)) e (st.pairs p c fed)))))
      (λ n. at-cases (λ y. Pair C.slack p c (w.worker p) y (w.ring p c)) a c (f (w.worker c)) (w.worker c)
      (λ g. subst (λ b. Pair C.slack p b (w.worker p) (f (w.worker b)) (w.ring p b)) (sym g)
      (consuming p (subst (λ b. C.feeds p b ≡ true) g fed)
      (subst (λ b. Pair C.slack p b (w.worker p) (w.worker b) (w.ring p b)) g (st.pairs p c fed))))
      (λ m. st.pairs p c fed));
  own = λ b. at-cases (λ x. Own C b x) a b (f (w.worker b)) (w.worker b)
      (λ e. subst (λ d. Own C d (f (w.worker d))) (sym e) (owning (st.own a)))
      (λ n. st.own b);
}

-- one ring changes
pub keeps-ring : (C : Crew) (w : World) (p c : ℕ) (f : RingState → RingState) → Stands C w
    → (C.feeds p c ≡ true → Pair C.slack p c (w.worker p) (w.worker c) (w.ring p c) → Pair C.slack p c (w.worker p) (w.worker c) (f (w.ring p c)))
    → Stands C (on_ring w p c f)
keeps-ring C w p c f st keeping = record {
  pairs = λ q b fed.
      both-cases (λ r. Pair C.slack q b (w.worker q) (w.worker b) r) p q c b (f (w.ring q b)) (w.ring q b)
      (λ e g.
      let at_q = subst (λ z. C.feeds z b ≡ true) e fed in
      let old = keeping (subst (λ z. C.feeds p z ≡ true) g at_q) in
      let before = subst (λ z. Pair C.slack p z (w.worker p) (w.worker z) (w.ring p z)) g
      (subst (λ z. Pair C.slack z b (w.worker z) (w.worker b) (w.ring z b)) e (st.pairs q b fed)) in
      subst (λ z. Pair C.slack z b (w.worker z) (w.worker b) (f (w.ring z b))) (sym e)
      (subst (λ z. Pair C.slack p z (w.worker p) (w.worker z) (f (w.ring p z))) (sym g) (old before)))
      (st.pairs q b fed);
  own = st.own;
}
