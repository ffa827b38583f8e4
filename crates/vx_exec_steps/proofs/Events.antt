-- An event keeps the agreement of queues, decks and hands with the traces.
use Rattle.std.proofs.Common.{ℕ, ◌≡◌, ◌≢◌, ◌<◌, ◌+◌, ◌⊎◌, List, [], ◌∷◌, ◌++◌, length, Option, Some, None, refl, sym, ap, ◌∙◌, subst, arith, inl, inr, append_assoc, slice_get}
use Rattle.std.proofs.Math.ListN.{get_or, set}
use Rattle.std.proofs.lemmas.Bool.Decides.{eqb_tells}
use Rattle.std.proofs.lemmas.Bool.{cases_eq}
use Rattle.std.proofs.lemmas.List.{get_or-set_same, get_or-set_other}
use Rattle.vx_morsel.specs.Draws.{Draws}
use Rattle.vx_ports.specs.Packets.{PacketView}
use Rattle.vx_ops.specs.Turn.{with_packet}
use Rattle.vx_worker.specs.Trace.{Trace, Event, idle, drew_one, took_one, put_one, added, drawn, empty_trace}
use Rattle.vx_exec_steps.specs.Stations.{StationDraws}
use Rattle.vx_exec_steps.specs.LinksView.{LinksView, queue_at, station_at, SameTables, SameQueues, SameStations, Puts, Takes, DrawsAt, Does}
use Rattle.vx_exec_steps.specs.Agrees.{trace_at, HasDealt, Agrees}
use Rattle.vx_exec_steps.specs.declared.station.Station.{Station}
use Rattle.vx_exec_steps.specs.declared.station.Station.TheVariants.{Inner, Exchange, Shared, Whole}
use Rattle.vx_exec_steps.proofs.Seats.{drew-at, dealt-same}

pub same-two : (a b c d : ℕ) → ((a ≡ b) × (c ≡ d)) ⊎ ((a ≡ b) × (c ≡ d) → ⊥)
same-two a b c d = elim (cases_eq a b) [
  | inl p ↦ elim (cases_eq c d) [
    | inl q ↦ inl (p, q)
    | inr q ↦ inr (λ h. q h.1)
  ]
  | inr p ↦ inr (λ h. p h.0)
]

-- a part of all traces that this change leaves alone
pub kept : {A : Type 0} (f : Trace → A) (ts : List Trace) (i : ℕ) (t : Trace) → i < length ts → f t ≡ f (trace_at ts i) → (a : ℕ) → f (trace_at (set ts i t) a) ≡ f (trace_at ts a)
kept f ts i t lt e a = elim (cases_eq a i) [
  | inl q ↦ subst (λ z. f (get_or (set ts i t) z empty_trace) ≡ f (get_or ts z empty_trace)) (sym q) (ap f (get_or-set_same ts i t empty_trace lt) ∙ e)
  | inr q ↦ ap f (get_or-set_other ts i a t empty_trace q)
]

-- a part that it changes at the one place
pub changed : {A : Type 0} (f : Trace → A) (ts : List Trace) (i : ℕ) (t : Trace) → i < length ts → (a : ℕ) → a ≡ i → f (trace_at (set ts i t) a) ≡ f t
changed f ts i t lt a e = subst (λ z. f (get_or (set ts i t) z empty_trace) ≡ f t) (sym e) (ap f (get_or-set_same ts i t empty_trace lt))

elsewhere : {A : Type 0} (f : Trace → A) (ts : List Trace) (i : ℕ) (t : Trace) (a : ℕ) → a ≢ i → f (trace_at (set ts i t) a) ≡ f (trace_at ts a)
elsewhere f ts i t a ne = ap f (get_or-set_other ts i a t empty_trace ne)

pub with-here : (f : ℕ → List PacketView) (j : ℕ) (p : PacketView) (k : ℕ) → k ≡ j → with_packet f j (Some p) k ≡ f k ++ p ∷ []
with-here f j p k e = elim (eqb_tells k j) [ inl q ↦ rw q.0 refl | inr q ↦ absurd (q.1 e) ]

pub with-other : (f : ℕ → List PacketView) (j : ℕ) (p : PacketView) (k : ℕ) → k ≢ j → with_packet f j (Some p) k ≡ f k
with-other f j p k e = elim (eqb_tells k j) [ inl q ↦ absurd (e q.1) | inr q ↦ rw q.0 refl ]

pub pair-is : (a b c d : ℕ) → a ≡ b → c ≡ d → let P : Type 0 = ℕ × ℕ in let x : P = (b, d) in let y : P = (a, c) in x ≡ y
pair-is a b c d e f = rw (e, f) refl

pub sent-other : (ts : List Trace) (i j : ℕ) (p : PacketView) → i < length ts → (a k : ℕ) → ((a ≡ i) × (k ≡ j) → ⊥)
    → (trace_at (set ts i (added (trace_at ts i) (put_one j p))) a).sent k ≡ (trace_at ts a).sent k
sent-other ts i j p lt a k apart = elim (cases_eq a i) [
  | inl q ↦ changed (λ z. z.sent k) ts i (added (trace_at ts i) (put_one j p)) lt a q ∙ with-other (trace_at ts i).sent j p k (λ e. apart (q, e)) ∙ ap (λ z. (trace_at ts z).sent k) (sym q)
  | inr q ↦ elsewhere (λ z. z.sent k) ts i (added (trace_at ts i) (put_one j p)) a q
]

-- what was sent is what came and what is on the way, for the tables of one board and the queues of another
abbrev Flow : LinksView → LinksView → List Trace → Type 0
Flow w v ts = (x below above i j : ℕ) → station_at w x ≡ Exchange below above → slice_get w.sends (below + i) ≡ Some x
    → (trace_at ts (below + i)).sent j ≡ (trace_at ts (above + j)).came x i ++ queue_at v (below + i) j

flow-put : (w v : LinksView) (j : ℕ) (p : PacketView) (ts : List Trace) → Agrees w ts → w.turn < length ts → Puts w j p v
    → Flow w v (set ts w.turn (added (trace_at ts w.turn) (put_one j p)))
flow-put w v j p ts h lt d x below above i k st s =
    let t = added (trace_at ts w.turn) (put_one j p) in
    let a = below + i in
    let c = above + k in
    let came : (trace_at (set ts w.turn t) c).came x i ≡ (trace_at ts c).came x i = kept (λ z. z.came x i) ts w.turn t lt refl c in
    let old = h.flows x below above i k st s in
    elim (same-two a w.turn k j) [
      | inl e ↦
          changed (λ z. z.sent k) ts w.turn t lt a e.0 ∙ with-here (trace_at ts w.turn).sent j p k e.1
          ∙ ap (λ z. z ++ p ∷ []) (ap (λ z. (trace_at ts z).sent k) (sym e.0) ∙ old)
          ∙ append_assoc ((trace_at ts c).came x i) (queue_at w a k) (p ∷ [])
          ∙ ap (λ z. (trace_at ts c).came x i ++ z) (subst (λ z. queue_at w z.0 z.1 ++ p ∷ [] ≡ queue_at v z.0 z.1) (pair-is a w.turn k j e.0 e.1) (sym d.here))
          ∙ ap (λ z. z ++ queue_at v a k) (sym came)
      | inr e ↦
          sent-other ts w.turn j p lt a k e ∙ old
          ∙ ap (λ z. (trace_at ts c).came x i ++ z) (sym (d.others a k e))
          ∙ ap (λ z. z ++ queue_at v a k) (sym came)
    ]

came-here : (ts : List Trace) (i x l : ℕ) (p : PacketView) → i < length ts → (a : ℕ) → a ≡ i
    → (trace_at (set ts i (added (trace_at ts i) (took_one x l (Some p)))) a).came x l ≡ (trace_at ts a).came x l ++ p ∷ []
came-here ts i x l p lt a e =
    let self : (added (trace_at ts i) (took_one x l (Some p))).came x l ≡ (trace_at ts i).came x l ++ p ∷ [] = elim (eqb_tells x x) [
      | inl q ↦ rw q.0 (with-here ((trace_at ts i).came x) l p l refl)
      | inr q ↦ absurd (q.1 refl)
    ]
    in
    changed (λ z. z.came x l) ts i (added (trace_at ts i) (took_one x l (Some p))) lt a e ∙ self ∙ ap (λ z. (trace_at ts z).came x l ++ p ∷ []) (sym e)

came-other : (ts : List Trace) (i x l : ℕ) (p : PacketView) → i < length ts → (a y k : ℕ) → ((a ≡ i) × (y ≡ x) × (k ≡ l) → ⊥)
    → (trace_at (set ts i (added (trace_at ts i) (took_one x l (Some p)))) a).came y k ≡ (trace_at ts a).came y k
came-other ts i x l p lt a y k apart = elim (cases_eq a i) [
  | inl q ↦
      let self : (added (trace_at ts i) (took_one x l (Some p))).came y k ≡ (trace_at ts i).came y k = elim (eqb_tells y x) [
        | inl r ↦ rw r.0 (with-other ((trace_at ts i).came y) l p k (λ e. apart (q, r.1, e)))
        | inr r ↦ rw r.0 refl
      ]
      in
      changed (λ z. z.came y k) ts i (added (trace_at ts i) (took_one x l (Some p))) lt a q ∙ self ∙ ap (λ z. (trace_at ts z).came y k) (sym q)
  | inr q ↦ elsewhere (λ z. z.came y k) ts i (added (trace_at ts i) (took_one x l (Some p))) a q
]

some-is : (x y : ℕ) → Some x ≡ Some y → x ≡ y
some-is x y e = cc

below-is : (a b c d : ℕ) → Exchange a b ≡ Exchange c d → a ≡ c
below-is a b c d e = cc

above-is : (a b c d : ℕ) → Exchange a b ≡ Exchange c d → b ≡ d
above-is a b c d e = cc

flow-take : (w v : LinksView) (x i : ℕ) (p : PacketView) (ts : List Trace) → Agrees w ts → w.turn < length ts → Takes w x i p v
    → Flow w v (set ts w.turn (added (trace_at ts w.turn) (took_one x i (Some p))))
flow-take w v x i p ts h lt d y below above l k st s =
    let t = added (trace_at ts w.turn) (took_one x i (Some p)) in
    let b = below + l in
    let c = above + k in
    let sent : (trace_at (set ts w.turn t) b).sent k ≡ (trace_at ts b).sent k = kept (λ z. z.sent k) ts w.turn t lt refl b in
    let old = h.flows y below above l k st s in
    let way = d.way in
    let consumer = way.consumer in
    let producer = way.producer in
    elim (same-two b d.a k d.j) [
      | inl e ↦
          let ey : y ≡ x = some-is y x (sym s ∙ ap (slice_get w.sends) e.0 ∙ way.sends) in
          let at : Exchange below above ≡ Exchange way.below way.above = sym st ∙ ap (station_at w) ey ∙ way.station in
          let same : below ≡ way.below = below-is below above way.below way.above at in
          let over : above ≡ way.above = above-is below above way.below way.above at in
          let eb = e.0 in
          let ek = e.1 in
          let el : l ≡ i = omega (arith, same, eb, producer) in
          let ec : c ≡ w.turn = omega (arith, over, ek, consumer) in
          let came : (trace_at (set ts w.turn t) c).came y l ≡ (trace_at ts c).came y l ++ p ∷ [] =
          subst (λ z. (trace_at (set ts w.turn t) c).came z.0 z.1 ≡ (trace_at ts c).came z.0 z.1 ++ p ∷ []) (pair-is y x l i ey el) (came-here ts w.turn x i p lt c ec)
          in
          let queue : queue_at w b k ≡ p ∷ queue_at v b k = subst (λ z. queue_at w z.0 z.1 ≡ p ∷ queue_at v z.0 z.1) (pair-is b d.a k d.j e.0 e.1) d.here in
          sent ∙ old ∙ ap (λ z. (trace_at ts c).came y l ++ z) queue ∙ sym (append_assoc ((trace_at ts c).came y l) (p ∷ []) (queue_at v b k)) ∙ ap (λ z. z ++ queue_at v b k) (sym came)
      | inr e ↦
          let apart : (c ≡ w.turn) × (y ≡ x) × (l ≡ i) → ⊥ = λ z.
          let at : Exchange below above ≡ Exchange way.below way.above = sym st ∙ ap (station_at w) z.1 ∙ way.station in
          let same : below ≡ way.below = below-is below above way.below way.above at in
          let over : above ≡ way.above = above-is below above way.below way.above at in
          let here = z.0 in
          let place = z.2 in
          e (omega (arith, same, place, producer), omega (arith, over, here, consumer))
          in
          sent ∙ old ∙ ap (λ z. (trace_at ts c).came y l ++ z) (sym (d.others b k e)) ∙ ap (λ z. z ++ queue_at v b k) (sym (came-other ts w.turn x i p lt c y l apart))
    ]

-- nothing moved on the queues, and no packet in the trace
flow-still : (w v : LinksView) (ts : List Trace) (t : Trace) → Agrees w ts → w.turn < length ts → SameQueues w v → t.sent ≡ (trace_at ts w.turn).sent → ((x i : ℕ) → t.came x i ≡ (trace_at ts w.turn).came x i)
    → Flow w v (set ts w.turn t)
flow-still w v ts t h lt q es ec x below above i j st s =
    kept (λ z. z.sent j) ts w.turn t lt (ap (λ (f : ℕ → List PacketView). f j) es) (below + i) ∙ h.flows x below above i j st s
    ∙ ap (λ z. (trace_at ts (above + j)).came x i ++ z) (sym (q (below + i) j))
    ∙ ap (λ z. z ++ queue_at v (below + i) j) (sym (kept (λ z. z.came x i) ts w.turn t lt (ec x i) (above + j)))

-- the tables may be read before or after, where exchanges stand as they did
moved : (w v : LinksView) (ts : List Trace) → SameTables w v → ((x below above : ℕ) → station_at v x ≡ Exchange below above → station_at w x ≡ Exchange below above)
    → Flow w v ts → Flow v v ts
moved w v ts l same f x below above i j st s = f x below above i j (same x below above st) (subst (λ z. slice_get z (below + i) ≡ Some x) l.sends s)

exchange-still : (w v : LinksView) → SameStations w v → (x below above : ℕ) → station_at v x ≡ Exchange below above → station_at w x ≡ Exchange below above
exchange-still w v e x below above st = sym (e x) ∙ st

-- no one drew
dealt-still : (w v : LinksView) (ts : List Trace) (t : Trace) → Agrees w ts → w.turn < length ts → SameStations w v → t.drew ≡ (trace_at ts w.turn).drew
    → (k : ℕ) → HasDealt (station_at v k) (λ a. (trace_at (set ts w.turn t) a).drew k)
dealt-still w v ts t h lt q e k =
    subst (λ z. HasDealt z (λ a. (trace_at (set ts w.turn t) a).drew k)) (sym (q k))
    (dealt-same (station_at w k) (λ a. (trace_at ts a).drew k) (λ a. (trace_at (set ts w.turn t) a).drew k)
    (λ a. kept (λ z. z.drew k) ts w.turn t lt (ap (λ (f : ℕ → Draws). f k) e) a) (h.draws k))

drew-here : (t : Trace) (k : ℕ) (n : Option ℕ) → (added t (drew_one k n)).drew k ≡ drawn (t.drew k) n
drew-here t k n = elim (eqb_tells k k) [ inl q ↦ rw q.0 refl | inr q ↦ absurd (q.1 refl) ]

drew-other : (t : Trace) (k : ℕ) (n : Option ℕ) (l : ℕ) → l ≢ k → (added t (drew_one k n)).drew l ≡ t.drew l
drew-other t k n l ne = elim (eqb_tells l k) [ inl q ↦ absurd (ne q.1) | inr q ↦ rw q.0 refl ]

dealt-after : (w v : LinksView) (k : ℕ) (n : Option ℕ) (ts : List Trace) → Agrees w ts → w.turn < length ts → DrawsAt w k n v
    → (l : ℕ) → HasDealt (station_at v l) (λ a. (trace_at (set ts w.turn (added (trace_at ts w.turn) (drew_one k n))) a).drew l)
dealt-after w v k n ts h lt d l =
    let t = added (trace_at ts w.turn) (drew_one k n) in
    elim (cases_eq l k) [
      | inl e ↦
          let P : ℕ → Type 0 = λ z. HasDealt (station_at v z) (λ a. (trace_at (set ts w.turn t) a).drew z) in
          subst P (sym e)
          (drew-at (station_at w k) (station_at v k) w.turn n (λ a. (trace_at ts a).drew k) (λ a. (trace_at (set ts w.turn t) a).drew k) d.here
          (changed (λ z. z.drew k) ts w.turn t lt w.turn refl ∙ drew-here (trace_at ts w.turn) k n)
          (λ b ne. elsewhere (λ z. z.drew k) ts w.turn t b ne) (h.draws k))
      | inr ne ↦
          subst (λ z. HasDealt z (λ a. (trace_at (set ts w.turn t) a).drew l)) (sym (d.others l ne))
          (dealt-same (station_at w l) (λ a. (trace_at ts a).drew l) (λ a. (trace_at (set ts w.turn t) a).drew l)
          (λ a. kept (λ z. z.drew l) ts w.turn t lt (drew-other (trace_at ts w.turn) k n l ne) a) (h.draws l))
    ]

none-came : (t : Trace) (x i y l : ℕ) → (added t (took_one x i None)).came y l ≡ t.came y l
none-came t x i y l = elim (eqb_tells y x) [ inl q ↦ rw q.0 refl | inr q ↦ rw q.0 refl ]

-- a draw turns no node into an exchange
was-exchange : (s t : Station) (a : ℕ) (n : Option ℕ) (below above : ℕ) → StationDraws s a n t → t ≡ Exchange below above → s ≡ Exchange below above
was-exchange Inner t a n below above h e = sym h.1 ∙ e
was-exchange (Exchange x y) t a n below above h e = sym h.1 ∙ e
was-exchange (Shared s) Inner a n below above h e = absurd h
was-exchange (Shared s) (Exchange x y) a n below above h e = absurd h
was-exchange (Shared s) (Shared t) a n below above h e = cc
was-exchange (Shared s) (Whole t) a n below above h e = absurd h
was-exchange (Whole s) Inner a n below above h e = absurd h
was-exchange (Whole s) (Exchange x y) a n below above h e = absurd h
was-exchange (Whole s) (Shared t) a n below above h e = absurd h
was-exchange (Whole s) (Whole t) a n below above h e = cc

exchange-drawn : (w v : LinksView) (k : ℕ) (n : Option ℕ) → DrawsAt w k n v → (x below above : ℕ) → station_at v x ≡ Exchange below above → station_at w x ≡ Exchange below above
exchange-drawn w v k n d x below above st = elim (cases_eq x k) [
  | inl e ↦ ap (station_at w) e ∙ was-exchange (station_at w k) (station_at v k) w.turn n below above d.here (ap (station_at v) (sym e) ∙ st)
  | inr ne ↦ sym (d.others x ne) ∙ st
]

pub agrees-on : (w v : LinksView) (e : Event) (ts : List Trace) → Agrees w ts → w.turn < length ts → Does w e v → Agrees v (set ts w.turn (added (trace_at ts w.turn) e))
agrees-on w v idle ts h lt d =
    record {
      flows = moved w v _ d.tables (exchange-still w v d.stations) (flow-still w v ts (trace_at ts w.turn) h lt d.queues refl (λ x i. refl));
      draws = dealt-still w v ts (trace_at ts w.turn) h lt d.stations refl;
    }
agrees-on w v (drew_one k n) ts h lt d =
    record {
      flows = moved w v _ d.tables (exchange-drawn w v k n d) (flow-still w v ts (added (trace_at ts w.turn) (drew_one k n)) h lt d.queues refl (λ x i. refl));
      draws = dealt-after w v k n ts h lt d;
    }
agrees-on w v (took_one x i None) ts h lt d =
    let t = added (trace_at ts w.turn) (took_one x i None) in
    let came = none-came (trace_at ts w.turn) x i in
    record {
      flows = moved w v _ d.stays.tables (exchange-still w v d.stays.stations) (flow-still w v ts t h lt d.stays.queues refl came);
      draws = dealt-still w v ts t h lt d.stays.stations refl;
    }
agrees-on w v (took_one x i (Some p)) ts h lt d =
    record {
      flows = moved w v _ d.tables (exchange-still w v d.stations) (flow-take w v x i p ts h lt d);
      draws = dealt-still w v ts (added (trace_at ts w.turn) (took_one x i (Some p))) h lt d.stations refl;
    }
agrees-on w v (put_one j p) ts h lt d =
    record {
      flows = moved w v _ d.tables (exchange-still w v d.stations) (flow-put w v j p ts h lt d);
      draws = dealt-still w v ts (added (trace_at ts w.turn) (put_one j p)) h lt d.stations refl;
    }
