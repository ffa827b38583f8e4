-- Changes of one worker that several events have in common.
use Rattle.std.proofs.Common.{ℕ, Bool, true, false, ◌≡◌, ◌<◌, ◌≤◌, ◌⊎◌, refl, sym, subst, inl, inr}
use Rattle.vx_exec_waking.specs.Crew.{Crew, Want, place_at, packet_of, Doing, going, waking, waiting, asleep, ended}
use Rattle.vx_exec_waking.specs.Crew.{WorkerState, RingState, World, with_at, on_worker, WaitsFor, IsAsleep, IsUp, now, given_token, to_wake, has_woken}
use Rattle.vx_exec_waking.proofs.Standing.{IsEnded, PlaceStands, Stands, at-cases, keeps-worker}

-- ---- what a worker that goes on is not about

abbrev pub IsBusy : Doing → Type 0
IsBusy going = Unit {0}
IsBusy (waking p) = Unit {0}
IsBusy (waiting x) = ⊥
IsBusy (asleep x) = ⊥
IsBusy ended = ⊥

pub busy-waits : (x : Want) (d : Doing) → IsBusy d → WaitsFor x d → ⊥
busy-waits x going b h = h
busy-waits x (waking p) b h = h
busy-waits x (waiting y) b h = b
busy-waits x (asleep y) b h = b
busy-waits x ended b h = b

pub busy-sleeps : (d : Doing) → IsBusy d → IsAsleep d → ⊥
busy-sleeps going b h = h
busy-sleeps (waking p) b h = h
busy-sleeps (waiting y) b h = b
busy-sleeps (asleep y) b h = b
busy-sleeps ended b h = b

pub busy-ends : (d : Doing) → IsBusy d → IsEnded d → ⊥
busy-ends going b h = h
busy-ends (waking p) b h = h
busy-ends (waiting y) b h = b
busy-ends (asleep y) b h = b
busy-ends ended b h = b

pub goes-busy : (d : Doing) → d ≡ going → IsBusy d
goes-busy d e = subst IsBusy (sym e) tt

pub up-sleeps : (d : Doing) → IsUp d → IsAsleep d → ⊥
up-sleeps going u h = h
up-sleeps (waking p) u h = h
up-sleeps (waiting y) u h = h
up-sleeps (asleep y) u h = u
up-sleeps ended u h = h

pub up-ends : (d : Doing) → IsUp d → IsEnded d → ⊥
up-ends going u h = h
up-ends (waking p) u h = h
up-ends (waiting y) u h = h
up-ends (asleep y) u h = h
up-ends ended u h = u

-- ---- the consumer of a ring does something else

pub place-after : (s p c : ℕ) (x y z : WorkerState) (r : RingState) → PlaceStands s p c x y r → (y.doing ≡ waking p → x.token ≡ true) → PlaceStands s p c x z r
place-after s p c x y z r h woken waits = ((h waits).0, go (h waits).1)
  where
    go : (x.token ≡ true) ⊎ ((y.doing ≡ waking p) ⊎ ((s ≤ r.packets) ⊎ (0 < r.seen))) → (x.token ≡ true) ⊎ ((z.doing ≡ waking p) ⊎ ((s ≤ r.packets) ⊎ (0 < r.seen)))
    go (inl t) = inl t
    go (inr (inl k)) = inl (woken k)
    go (inr (inr q)) = inr (inr q)

-- ---- a token more

pub keeps-token : (C : Crew) (w : World) (a : ℕ) → Stands C w → Stands C (on_worker w a given_token)
keeps-token C w a st =
    keeps-worker C w a given_token st
    (λ c fed h. record { ring = h.ring; looked = h.looked; place = λ waits. ((h.place waits).0, inl refl); packet = h.packet; producer = h.producer; consumer = h.consumer })
    (λ p fed h. record { ring = h.ring; looked = λ l. inl refl; place = h.place; packet = h.packet; producer = h.producer; consumer = h.consumer })
    (λ o. record { place = o.place; packet = o.packet })

-- ---- it goes on, with a step or with waking a producer

pub keeps-busy : (C : Crew) (w : World) (a : ℕ) (d : Doing) → Stands C w → IsBusy d
    → ((p : ℕ) → C.feeds p a ≡ true → (w.worker a).doing ≡ waking p → (w.worker p).token ≡ true)
    → Stands C (on_worker w a (now d))
keeps-busy C w a d st busy woken =
    keeps-worker C w a (now d) st
    (λ c fed h. record {
      ring = h.ring;
      looked = h.looked;
      place = λ waits. absurd (busy-waits (place_at c) d busy waits);
      packet = h.packet;
      producer = (λ s. absurd (busy-sleeps d busy s), h.producer.1, λ e. absurd (busy-ends d busy e));
      consumer = h.consumer;
    })
    (λ p fed h. record {
      ring = h.ring;
      looked = h.looked;
      place = place-after C.slack p a (w.worker p) (w.worker a) (now d (w.worker a)) (w.ring p a) h.place (woken p fed);
      packet = λ waits. absurd (busy-waits (packet_of p) d busy waits);
      producer = h.producer;
      consumer = (λ s. absurd (busy-sleeps d busy s), λ e. absurd (busy-ends d busy e));
    })
    (λ o. record { place = λ c waits. absurd (busy-waits (place_at c) d busy waits); packet = λ p waits. absurd (busy-waits (packet_of p) d busy waits) })

-- ---- whom it has yet to wake

still : (f : ℕ → Bool) (c b : ℕ) → f b ≡ true → with_at f c true b ≡ true
still f c b h = at-cases (λ z. z ≡ true) c b true (f b) (λ e. refl) (λ n. h)

pub to-wake-here : (f : ℕ → Bool) (c : ℕ) → with_at f c true c ≡ true
to-wake-here f c = at-cases (λ z. z ≡ true) c c true (f c) (λ e. refl) (λ n. absurd (n refl))

pub keeps-to-wake : (C : Crew) (w : World) (a c : ℕ) → Stands C w → (w.worker a).doing ≡ going → Stands C (on_worker w a (to_wake c))
keeps-to-wake C w a c st goes =
    keeps-worker C w a (to_wake c) st
    (λ b fed h. record {
      ring = h.ring;
      looked = λ l. elim (h.looked l) [
        | inl t ↦ inl t
        | inr q ↦ elim q [ inl u ↦ inr (inl (still (w.worker a).unwoken c b u)) | inr z ↦ inr (inr z) ]
      ];
      place = h.place;
      packet = h.packet;
      producer = (
        λ s. absurd (busy-sleeps (w.worker a).doing (goes-busy (w.worker a).doing goes) s),
        h.producer.1,
        λ e. absurd (busy-ends (w.worker a).doing (goes-busy (w.worker a).doing goes) e),
      );
      consumer = h.consumer;
    })
    (λ p fed h. record { ring = h.ring; looked = h.looked; place = h.place; packet = h.packet; producer = h.producer; consumer = h.consumer })
    (λ o. record { place = o.place; packet = o.packet })

-- it has woken a consumer, which has a token therefore
pub keeps-woken : (C : Crew) (w : World) (a c : ℕ) → Stands C w → (w.worker c).token ≡ true → Stands C (on_worker w a (has_woken c))
keeps-woken C w a c st token =
    keeps-worker C w a (has_woken c) st
    (λ b fed h. record {
      ring = h.ring;
      looked = λ l. elim (h.looked l) [
        | inl t ↦ inl t
        | inr q ↦ elim q [
          | inl u ↦
              at-cases (λ z. ((w.worker b).token ≡ true) ⊎ ((z ≡ true) ⊎ ((w.ring a b).packets ≡ 0))) c b false ((w.worker a).unwoken b)
              (λ e. inl (subst (λ n. (w.worker n).token ≡ true) (sym e) token))
              (λ n. inr (inl u))
          | inr z ↦ inr (inr z)
        ]
      ];
      place = h.place;
      packet = h.packet;
      producer = (
        λ s. at-cases (λ z. z ≡ false) c b false ((w.worker a).unwoken b) (λ e. refl) (λ n. h.producer.0 s),
        h.producer.1,
        λ e. ((h.producer.2 e).0, at-cases (λ z. z ≡ false) c b false ((w.worker a).unwoken b) (λ g. refl) (λ n. (h.producer.2 e).1)),
      );
      consumer = h.consumer;
    })
    (λ p fed h. record { ring = h.ring; looked = h.looked; place = h.place; packet = h.packet; producer = h.producer; consumer = h.consumer })
    (λ o. record { place = o.place; packet = o.packet })
