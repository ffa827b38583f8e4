-- What stands, event by event.
use Rattle.std.proofs.Common.{ℕ, Bool, true, false, ◌≡◌, ◌+◌, ◌-◌, ◌<◌, ◌≤◌, ◌⊎◌, ◌==◌, ◌&&◌, ◌||◌, refl, sym, subst, ap, ◌∙◌, inl, inr, arith, true≢false, List, [], ◌∷◌}
use Rattle.std.proofs.lemmas.Bool.Decides.{eqb_tells, leb_tells}
use Rattle.vx_exec_waking.specs.Crew.{Crew, Phase, working, closing, draining, Want, place_at, packet_of, Doing, going, waking, waiting, asleep, ended}
use Rattle.vx_exec_waking.specs.Crew.{WorkerState, RingState, World, on_worker, on_ring, WaitsFor, IsAsleep, IsUp, Reads}
use Rattle.vx_exec_waking.specs.Crew.{now, in_phase, given_token, awake, to_wake, has_woken, has_looked, failed, lacking, one_more, closed_now, all_seen, one_moved, one_read}
use Rattle.vx_exec_waking.specs.Events.{Event, puts, closes, finds_full, wakes_consumer, looks, moves, wakes_producer, reads, finds_none, goes_on, parks, wakes_up, stops, is_refused, drains, ends}
use Rattle.vx_exec_waking.specs.Events.{all_duties, HasWoken, MayPark, May, after_move, after, MayAll, after_all}
use Rattle.vx_exec_waking.proofs.Tests.{or-true, or-cases, and-cases, and-true, test-true}
use Rattle.vx_exec_waking.proofs.Standing.{IsEnded, Pair, Own, Stands, at-cases, worker-here, keeps-worker, keeps-ring}
use Rattle.vx_exec_waking.proofs.Changing.{IsBusy, busy-waits, busy-sleeps, busy-ends, goes-busy, up-sleeps, up-ends, place-after}
use Rattle.vx_exec_waking.proofs.Changing.{keeps-token, keeps-busy, keeps-to-wake, to-wake-here, keeps-woken}

-- what a worker goes about is not going
goes-waits : (x : Want) (d : Doing) → d ≡ going → WaitsFor x d → ⊥
goes-waits x d e = busy-waits x d (goes-busy d e)

goes-sleeps : (d : Doing) → d ≡ going → IsAsleep d → ⊥
goes-sleeps d e = busy-sleeps d (goes-busy d e)

goes-ends : (d : Doing) → d ≡ going → IsEnded d → ⊥
goes-ends d e = busy-ends d (goes-busy d e)

not-waking : (d : Doing) (p : ℕ) → d ≡ going → d ≡ waking p → ⊥
not-waking d p e f = cc

-- ---- puts

-- the worker after a first change of it is still about the same
still-going : (w : World) (a : ℕ) (f : WorkerState → WorkerState) → (f (w.worker a)).doing ≡ going → ((on_worker w a f).worker a).doing ≡ going
still-going w a f e = ap (λ (x : WorkerState). x.doing) (worker-here w a f) ∙ e

unwoken-here : (w : World) (p c : ℕ) → ((on_worker w p (to_wake c)).worker p).unwoken c ≡ true
unwoken-here w p c = ap (λ (x : WorkerState). x.unwoken c) (worker-here w p (to_wake c)) ∙ to-wake-here (w.worker p).unwoken c

keeps-puts : (C : Crew) (w : World) (p c : ℕ) → Stands C w → (w.worker p).doing ≡ going → (w.ring p c).closed ≡ false
    → Stands C (on_ring (on_worker w p (to_wake c)) p c one_more)
keeps-puts C w p c st goes unclosed =
    let v = on_worker w p (to_wake c) in
    let at = still-going w p (to_wake c) goes in
    keeps-ring C v p c one_more (keeps-to-wake C w p c st goes) (λ fed h. record {
      ring = (
        (let s = h.ring.0 in omega arith),
        λ e. absurd (true≢false (sym e ∙ unclosed)),
        λ o. absurd (true≢false (sym (h.ring.2 o).0 ∙ unclosed)),
      );
      looked = λ l. inr (inl (unwoken-here w p c));
      place = λ waits. absurd (goes-waits (place_at c) (v.worker p).doing at waits);
      packet = h.packet;
      producer = h.producer;
      consumer = h.consumer;
    })

keeps-closes : (C : Crew) (w : World) (p c : ℕ) → Stands C w → (w.worker p).doing ≡ going → (w.ring p c).closed ≡ false
    → Stands C (on_ring (on_worker w p (to_wake c)) p c closed_now)
keeps-closes C w p c st goes unclosed =
    let v = on_worker w p (to_wake c) in
    let at = still-going w p (to_wake c) goes in
    keeps-ring C v p c closed_now (keeps-to-wake C w p c st goes) (λ fed h. record {
      ring = (
        (let s = h.ring.0 in omega arith),
        λ e. inr (omega arith),
        λ o. absurd (true≢false (sym (h.ring.2 o).0 ∙ unclosed)),
      );
      looked = λ l. inr (inl (unwoken-here w p c));
      place = λ waits. absurd (goes-waits (place_at c) (v.worker p).doing at waits);
      packet = h.packet;
      producer = (h.producer.0, λ e. refl, λ e. (refl, (h.producer.2 e).1));
      consumer = h.consumer;
    })

-- ---- waits

same-place : (a b : ℕ) → place_at a ≡ place_at b → b ≡ a
same-place a b e = cc

same-packet : (a b : ℕ) → packet_of a ≡ packet_of b → b ≡ a
same-packet a b e = cc

not-both : (a b : ℕ) → place_at a ≡ packet_of b → ⊥
not-both a b e = cc

keeps-finds_full : (C : Crew) (w : World) (p c : ℕ) → Stands C w → C.feeds p c ≡ true → (w.worker p).doing ≡ going
    → (w.ring p c).closed ≡ false → C.slack ≤ (w.ring p c).packets → Stands C (on_worker w p (now (waiting (place_at c))))
keeps-finds_full C w p c st fed goes unclosed full =
    keeps-worker C w p (now (waiting (place_at c))) st
    (λ b fed' h. record {
      ring = h.ring;
      looked = h.looked;
      place = λ e. subst (λ n. ((w.ring p n).closed ≡ false) × (((w.worker p).token ≡ true) ⊎ (((w.worker n).doing ≡ waking p) ⊎ ((C.slack ≤ (w.ring p n).packets) ⊎ (0 < (w.ring p n).seen)))))
          (sym (same-place c b e)) (unclosed, inr (inr (inl full)));
      packet = h.packet;
      producer = (λ s. absurd s, h.producer.1, λ e. absurd e);
      consumer = h.consumer;
    })
    (λ q fed' h. record {
      ring = h.ring;
      looked = h.looked;
      place = place-after C.slack q p (w.worker q) (w.worker p) (now (waiting (place_at c)) (w.worker p)) (w.ring q p) h.place (λ k. absurd (not-waking (w.worker p).doing q goes k));
      packet = λ e. absurd (not-both c q e);
      producer = h.producer;
      consumer = (λ s. absurd s, λ e. absurd e);
    })
    (λ o. record { place = λ b e. subst (λ n. C.feeds p n ≡ true) (sym (same-place c b e)) fed; packet = λ q e. absurd (not-both c q e) })

keeps-finds_none : (C : Crew) (w : World) (c p : ℕ) → Stands C w → C.feeds p c ≡ true → (w.worker c).doing ≡ going → Reads (w.worker c).phase
    → (w.ring p c).over ≡ false → (w.ring p c).queued ≡ 0 → (w.worker c).looked p ≡ true → Stands C (on_worker w c (now (waiting (packet_of p))))
keeps-finds_none C w c p st fed goes reading going_on empty looked =
    keeps-worker C w c (now (waiting (packet_of p))) st
    (λ b fed' h. record {
      ring = h.ring;
      looked = h.looked;
      place = λ e. absurd (not-both b p (sym e));
      packet = h.packet;
      producer = (λ s. absurd s, h.producer.1, λ e. absurd e);
      consumer = h.consumer;
    })
    (λ q fed' h. record {
      ring = h.ring;
      looked = h.looked;
      place = place-after C.slack q c (w.worker q) (w.worker c) (now (waiting (packet_of p)) (w.worker c)) (w.ring q c) h.place (λ k. absurd (not-waking (w.worker c).doing q goes k));
      packet = λ e. subst (λ n. ((w.ring n c).over ≡ false) × ((w.ring n c).queued ≡ 0) × ((w.worker c).looked n ≡ true)) (sym (same-packet p q e)) (going_on, empty, looked);
      producer = h.producer;
      consumer = (λ s. absurd s, λ e. absurd e);
    })
    (λ o. record { place = λ b e. absurd (not-both b p (sym e)); packet = λ q e. (subst (λ n. C.feeds n c ≡ true) (sym (same-packet p q e)) fed, reading) })

keeps-parks : (C : Crew) (w : World) (a : ℕ) (x : Want) → Stands C w → (w.worker a).doing ≡ waiting x → MayPark all_duties C w a → Stands C (on_worker w a (now (asleep x)))
keeps-parks C w a x st waits may =
    keeps-worker C w a (now (asleep x)) st
    (λ c fed h. record {
      ring = h.ring;
      looked = h.looked;
      place = λ e. h.place (subst (λ d. WaitsFor (place_at c) d) (sym waits) e);
      packet = h.packet;
      producer = (λ s. may.woken refl c fed, h.producer.1, λ e. absurd e);
      consumer = h.consumer;
    })
    (λ p fed h. record {
      ring = h.ring;
      looked = h.looked;
      place = place-after C.slack p a (w.worker p) (w.worker a) (now (asleep x) (w.worker a)) (w.ring p a) h.place (λ k. absurd (waits-wakes (w.worker a).doing x p waits k));
      packet = λ e. h.packet (subst (λ d. WaitsFor (packet_of p) d) (sym waits) e);
      producer = h.producer;
      consumer = (λ s. may.emptied refl p fed, λ e. absurd e);
    })
    (λ o. record { place = λ c e. o.place c (subst (λ d. WaitsFor (place_at c) d) (sym waits) e); packet = λ p e. o.packet p (subst (λ d. WaitsFor (packet_of p) d) (sym waits) e) })
  where
    waits-wakes : (d : Doing) (y : Want) (p : ℕ) → d ≡ waiting y → d ≡ waking p → ⊥
    waits-wakes d y p e f = cc

keeps-wakes_up : (C : Crew) (w : World) (a : ℕ) (x : Want) → Stands C w → (w.worker a).doing ≡ asleep x → Stands C (on_worker w a awake)
keeps-wakes_up C w a x st sleeps =
    keeps-worker C w a awake st
    (λ c fed h. record {
      ring = h.ring;
      looked = h.looked;
      place = λ e. absurd e;
      packet = h.packet;
      producer = (λ s. absurd s, h.producer.1, λ e. absurd e);
      consumer = h.consumer;
    })
    (λ p fed h. record {
      ring = h.ring;
      looked = λ l. absurd (true≢false (sym l));
      place = place-after C.slack p a (w.worker p) (w.worker a) (awake (w.worker a)) (w.ring p a) h.place (λ k. absurd (sleeps-wakes (w.worker a).doing p sleeps k));
      packet = λ e. absurd e;
      producer = h.producer;
      consumer = (λ s. absurd s, λ e. absurd e);
    })
    (λ o. record { place = λ c e. absurd e; packet = λ p e. absurd e })
  where
    sleeps-wakes : (d : Doing) (p : ℕ) → d ≡ asleep x → d ≡ waking p → ⊥
    sleeps-wakes d p e f = cc

-- ---- wakes

keeps-wakes_consumer : (C : Crew) (w : World) (p c : ℕ) → Stands C w → Stands C (on_worker (on_worker w c given_token) p (has_woken c))
keeps-wakes_consumer C w p c st =
    keeps-woken C (on_worker w c given_token) p c (keeps-token C w c st) (ap (λ (x : WorkerState). x.token) (worker-here w c given_token))

keeps-wakes_producer : (C : Crew) (w : World) (c p : ℕ) → Stands C w → C.feeds p c ≡ true → (w.worker c).doing ≡ waking p
    → Stands C (on_worker (on_worker w p given_token) c (now going))
keeps-wakes_producer C w c p st fed wakes =
    let v = on_worker w p given_token in
    keeps-busy C v c going (keeps-token C w p st) tt
    (λ q fed' k. subst (λ n. (v.worker n).token ≡ true) (sym (same-waking (v.worker c).doing p q (about wakes) k)) (ap (λ (x : WorkerState). x.token) (worker-here w p given_token)))
  where
    -- a token changes nothing of what it is about
    about : (w.worker c).doing ≡ waking p → ((on_worker w p given_token).worker c).doing ≡ waking p
    about e = at-cases (λ (x : WorkerState). x.doing ≡ waking p) p c (given_token (w.worker c)) (w.worker c) (λ g. e) (λ n. e)

    same-waking : (d : Doing) (a b : ℕ) → d ≡ waking a → d ≡ waking b → b ≡ a
    same-waking d a b e g = cc

-- ---- looks and takes

keeps-has-looked : (C : Crew) (w : World) (c p : ℕ) → Stands C w → C.feeds p c ≡ true → IsUp (w.worker c).doing
    → Stands C (on_worker w c (has_looked p (w.ring p c).packets))
keeps-has-looked C w c p st fed up =
    keeps-worker C w c (has_looked p n) st
    (λ b fed' h. record { ring = h.ring; looked = h.looked; place = h.place; packet = h.packet; producer = h.producer; consumer = h.consumer })
    (λ q fed' h. record {
      ring = h.ring;
      looked = at-cases (λ z. z ≡ true → ((w.worker c).token ≡ true) ⊎ (((w.worker q).unwoken c ≡ true) ⊎ ((w.ring q c).packets ≡ 0))) p q ((n == 0) || y.looked p) (y.looked q)
          (λ e l. elim (or-cases (n == 0) (y.looked p) l) [
            | inl none ↦ inr (inr (ap (λ m. (w.ring m c).packets) e ∙ test-true n 0 none))
            | inr old ↦ h.looked (ap y.looked e ∙ old)
          ])
          (λ m l. h.looked l);
      place = h.place;
      packet = λ waits.
          let k = h.packet waits in
          (k.0, k.1, at-cases (λ z. z ≡ true) p q ((n == 0) || y.looked p) (y.looked q) (λ e. or-true (n == 0) (y.looked p) (ap y.looked (sym e) ∙ k.2)) (λ m. k.2));
      producer = h.producer;
      consumer = (λ s. absurd (up-sleeps y.doing up s), λ e. absurd (up-ends y.doing up e));
    })
    (λ o. record { place = o.place; packet = o.packet })
  where
    n : ℕ
    n = (w.ring p c).packets

    y : WorkerState
    y = w.worker c

keeps-looks : (C : Crew) (w : World) (c p : ℕ) → Stands C w → C.feeds p c ≡ true → IsUp (w.worker c).doing
    → Stands C (on_ring (on_worker w c (has_looked p (w.ring p c).packets)) p c all_seen)
keeps-looks C w c p st fed up =
    keeps-ring C (on_worker w c (has_looked p (w.ring p c).packets)) p c all_seen (keeps-has-looked C w c p st fed up) (λ fed' h. record {
      ring = (omega arith, h.ring.1, h.ring.2);
      looked = h.looked;
      place = λ waits.
          let k = h.place waits in (
            k.0,
            elim k.1 [
              | inl t ↦ inl t
              | inr q ↦ elim q [
                | inl d ↦ inr (inl d)
                | inr z ↦ elim z [ inl f ↦ inr (inr (inl f)) | inr s ↦ let le = h.ring.0 in inr (inr (inr (omega (arith, s, le)))) ]
              ]
            ],
          );
      packet = h.packet;
      producer = h.producer;
      consumer = h.consumer;
    })

-- once the consumer has gone about waking the producer, or knows of a packet more
keeps-moved : (C : Crew) (v : World) (c p : ℕ) → Stands C v → 0 < (v.ring p c).seen → IsBusy (v.worker c).doing
    → ((v.worker c).doing ≡ waking p) ⊎ (0 < (v.ring p c).seen - 1) → Stands C (on_ring v p c one_moved)
keeps-moved C v c p st some busy tells =
    keeps-ring C v p c one_moved st (λ fed h. record {
      ring = (
        (let s = h.ring.0 in omega (arith, s, some)),
        λ e. inr (omega arith),
        λ o. let k = (h.ring.2 o).1 in let s = h.ring.0 in absurd (omega (arith, k, s, some)),
      );
      looked = λ l. elim (h.looked l) [
        | inl t ↦ inl t
        | inr q ↦ elim q [ inl u ↦ inr (inl u) | inr z ↦ inr (inr (omega (arith, z))) ]
      ];
      place = λ waits. ((h.place waits).0, elim tells [ inl k ↦ inr (inl k) | inr k ↦ inr (inr (inr k)) ]);
      packet = λ waits. absurd (busy-waits (packet_of p) (v.worker c).doing busy waits);
      producer = h.producer;
      consumer = h.consumer;
    })

move-cases : (p : ℕ) (r : RingState) → (after_move all_duties p r ≡ waking p) ⊎ ((after_move all_duties p r ≡ going) × (0 < r.seen - 1))
move-cases p r = elim (leb_tells r.seen 1) [
  | inl e ↦ inl (rw e.0 refl)
  | inr e ↦ let l = e.1 in inr (rw e.0 refl, omega (arith, l))
]

keeps-moves : (C : Crew) (w : World) (c p : ℕ) → Stands C w → (w.worker c).doing ≡ going → 0 < (w.ring p c).seen
    → (d : Doing) → (d ≡ waking p) ⊎ ((d ≡ going) × (0 < (w.ring p c).seen - 1)) → Stands C (on_ring (on_worker w c (now d)) p c one_moved)
keeps-moves C w c p st goes some d (inl e) =
    keeps-moved C (on_worker w c (now d)) c p
    (keeps-busy C w c d st (subst IsBusy (sym e) tt) (λ q fed k. absurd (not-waking (w.worker c).doing q goes k)))
    some (subst IsBusy (sym (here ∙ e)) tt) (inl (here ∙ e))
  where
    here : ((on_worker w c (now d)).worker c).doing ≡ d
    here = ap (λ (x : WorkerState). x.doing) (worker-here w c (now d))
keeps-moves C w c p st goes some d (inr e) =
    keeps-moved C (on_worker w c (now d)) c p
    (keeps-busy C w c d st (subst IsBusy (sym e.0) tt) (λ q fed k. absurd (not-waking (w.worker c).doing q goes k)))
    some (subst IsBusy (sym (here ∙ e.0)) tt) (inr e.1)
  where
    here : ((on_worker w c (now d)).worker c).doing ≡ d
    here = ap (λ (x : WorkerState). x.doing) (worker-here w c (now d))

-- the last packet of a closed ring was taken, or some are left
read-left : (r : RingState) → 0 < r.queued → r.closed ≡ true → (r.over ≡ true) ⊎ (0 < r.packets + r.queued)
    → ((r.over || (r.closed && (r.packets + r.queued == 1))) ≡ true) ⊎ (0 < r.packets + (r.queued - 1))
read-left r some closed h = elim (eqb_tells (r.packets + r.queued) 1) [
  | inl e ↦ inl (or-true r.over (r.closed && (r.packets + r.queued == 1)) (and-true r.closed (r.packets + r.queued == 1) closed e.0))
  | inr e ↦ let n = e.1 in inr (omega (arith, n, some))
]

read-over : (r : RingState) → 0 < r.queued → (r.over ≡ true → (r.closed ≡ true) × (r.packets ≡ 0))
    → (r.over || (r.closed && (r.packets + r.queued == 1))) ≡ true → (r.closed ≡ true) × (r.packets ≡ 0)
read-over r some old o = elim (or-cases r.over (r.closed && (r.packets + r.queued == 1)) o) [
  | inl e ↦ old e
  | inr e ↦
      let k = and-cases r.closed (r.packets + r.queued == 1) e in
      let one = test-true (r.packets + r.queued) 1 k.1 in
      (k.0, omega (arith, one, some))
]

keeps-reads : (C : Crew) (w : World) (c p : ℕ) → Stands C w → (w.worker c).doing ≡ going → 0 < (w.ring p c).queued → Stands C (on_ring w p c one_read)
keeps-reads C w c p st goes some =
    keeps-ring C w p c one_read st (λ fed h. record {
      ring = (h.ring.0, λ e. read-left (w.ring p c) some e (h.ring.1 e), λ o. read-over (w.ring p c) some h.ring.2 o);
      looked = h.looked;
      place = h.place;
      packet = λ waits. absurd (goes-waits (packet_of p) (w.worker c).doing goes waits);
      producer = h.producer;
      consumer = (λ s. absurd (goes-sleeps (w.worker c).doing goes s), λ e. absurd (goes-ends (w.worker c).doing goes e));
    })

-- ---- where a worker stands

-- another phase, of a worker that goes on
keeps-phase : (C : Crew) (w : World) (a : ℕ) (f : WorkerState → WorkerState) (s : Phase) (refused : Bool) → Stands C w → (w.worker a).doing ≡ going
    → f (w.worker a) ≡ record (w.worker a) { phase = s; refused = refused }
    → ((c : ℕ) → C.feeds a c ≡ true → ((w.worker a).phase ≡ draining → (w.ring a c).closed ≡ true) → s ≡ draining → (w.ring a c).closed ≡ true)
    → Stands C (on_worker w a f)
keeps-phase C w a f s refused st goes is drained =
    keeps-worker C w a f st
    (λ c fed h. subst (λ x. Pair C.slack a c x (w.worker c) (w.ring a c)) (sym is) (record {
      ring = h.ring;
      looked = h.looked;
      place = h.place;
      packet = h.packet;
      producer = (h.producer.0, drained c fed h.producer.1, h.producer.2);
      consumer = h.consumer;
    }))
    (λ p fed h. subst (λ y. Pair C.slack p a (w.worker p) y (w.ring p a)) (sym is) (record {
      ring = h.ring;
      looked = h.looked;
      place = h.place;
      packet = h.packet;
      producer = h.producer;
      consumer = (λ s. absurd (goes-sleeps (w.worker a).doing goes s), h.consumer.1);
    }))
    (λ o. subst (λ x. Own C a x) (sym is) (record { place = o.place; packet = λ p waits. absurd (goes-waits (packet_of p) (w.worker a).doing goes waits) }))

failed-drains : (s : Phase) → failed s ≡ draining → s ≡ draining
failed-drains working e = cc
failed-drains closing e = cc
failed-drains draining e = refl

keeps-ends : (C : Crew) (w : World) (a : ℕ) → Stands C w → (w.worker a).doing ≡ going → (w.worker a).phase ≡ draining → HasWoken C a (w.worker a)
    → ((p : ℕ) → C.feeds p a ≡ true → (w.ring p a).over ≡ true) → Stands C (on_worker w a (now ended))
keeps-ends C w a st goes drained woken over =
    keeps-worker C w a (now ended) st
    (λ c fed h. record {
      ring = h.ring;
      looked = h.looked;
      place = λ e. absurd e;
      packet = h.packet;
      producer = (λ s. absurd s, h.producer.1, λ e. (h.producer.1 drained, woken c fed));
      consumer = h.consumer;
    })
    (λ p fed h. record {
      ring = h.ring;
      looked = h.looked;
      place = place-after C.slack p a (w.worker p) (w.worker a) (now ended (w.worker a)) (w.ring p a) h.place (λ k. absurd (not-waking (w.worker a).doing p goes k));
      packet = λ e. absurd e;
      producer = h.producer;
      consumer = (λ s. absurd s, λ e. over p fed);
    })
    (λ o. record { place = λ c e. absurd e; packet = λ p e. absurd e })

-- ---- every event

keeps : (C : Crew) (w : World) (e : Event) → Stands C w → May all_duties C w e → Stands C (after all_duties C w e)
keeps C w (puts p c) st m = keeps-puts C w p c st m.1 m.3
keeps C w (closes p c) st m = keeps-closes C w p c st m.1 m.3
keeps C w (finds_full p c) st m = keeps-finds_full C w p c st m.0 m.1 m.2 m.3
keeps C w (wakes_consumer p c) st m = keeps-wakes_consumer C w p c st
keeps C w (looks c p) st m = keeps-looks C w c p st m.0 m.1
keeps C w (moves c p) st m = keeps-moves C w c p st m.1 m.2 (after_move all_duties p (w.ring p c)) (move-cases p (w.ring p c))
keeps C w (wakes_producer c p) st m = keeps-wakes_producer C w c p st m.0 m.1
keeps C w (reads c p) st m = keeps-reads C w c p st m.1 m.3
keeps C w (finds_none c p) st m = keeps-finds_none C w c p st m.0 m.1 m.2 m.3 m.4 m.5
keeps C w (goes_on a) st m = keeps-busy C w a going st tt (λ p fed k. absurd (waits-wakes (w.worker a).doing m.0 p m.1 k))
  where
    waits-wakes : (d : Doing) (y : Want) (p : ℕ) → d ≡ waiting y → d ≡ waking p → ⊥
    waits-wakes d y p e f = cc
keeps C w (parks a x) st m = keeps-parks C w a x st m.0 m.1
keeps C w (wakes_up a x) st m = keeps-wakes_up C w a x st m.0
keeps C w (stops a) st m = keeps-phase C w a (in_phase closing) closing (w.worker a).refused st m.0 refl (λ c fed old e. cc)
keeps C w (is_refused a) st m = keeps-phase C w a lacking (failed (w.worker a).phase) true st m refl (λ c fed old e. old (failed-drains (w.worker a).phase e))
keeps C w (drains a) st m = keeps-phase C w a (in_phase draining) draining (w.worker a).refused st m.0 refl (λ c fed old e. m.2 c fed)
keeps C w (ends a) st m = keeps-ends C w a st m.0 m.1 m.2 m.3

pub keeps-all : (C : Crew) (w : World) (es : List Event) → Stands C w → MayAll all_duties C w es → Stands C (after_all all_duties C w es)
keeps-all C w [] st m = st
keeps-all C w (e ∷ es) st m = keeps-all C (after all_duties C w e) es (keeps C w e st m.0) m.1
