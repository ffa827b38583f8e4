-- Events leave the connections as they are.
use Rattle.std.proofs.Common.{ℕ, ◌≡◌, ◌≤◌, ◌+◌, ◌-◌, length, List, Option, Some, None, refl, sym, ap, ◌∙◌, subst, arith, inl, inr}
use Rattle.std.proofs.lemmas.Bool.{cases_eq, cases_lt}
use Rattle.std.proofs.lemmas.List.{get_or_past}
use Rattle.vx_morsel.specs.Hands.{HandState, HandDraws, DeckState, DeckDraws}
use Rattle.vx_worker.specs.Trace.{Event, idle, drew_one, took_one, put_one}
use Rattle.vx_exec_steps.specs.Scans.{hand_in, no_hand}
use Rattle.vx_exec_steps.specs.Stations.{StationDraws}
use Rattle.vx_exec_steps.specs.LinksView.{LinksView, station_at, SameStations, Does}
use Rattle.vx_exec_steps.specs.Same.{SameStation, SameBoard}
use Rattle.vx_exec_steps.specs.declared.station.Station.{Station}
use Rattle.vx_exec_steps.specs.declared.station.Station.TheVariants.{Inner, Exchange, Shared, Whole}
use Rattle.vx_exec_steps.proofs.Seats.{among}

deck-kept : (d e : DeckState) (n : Option ℕ) → DeckDraws d n e → e.morsels ≡ d.morsels
deck-kept d e None h = ap (λ (z : DeckState). z.morsels) h.1
deck-kept d e (Some m) h = ap (λ (z : DeckState). z.morsels) h.2

hand-kept : (h g : HandState) (n : Option ℕ) → HandDraws h n g → g.morsels ≡ h.morsels
hand-kept h g None d = ap (λ (z : HandState). z.morsels) d.1
hand-kept h g (Some m) d = ap (λ (z : HandState). z.morsels) d.2

station-self : (s : Station) → SameStation s s
station-self Inner = refl
station-self (Exchange below above) = refl
station-self (Shared s) = record { first = refl; workers = refl; morsels = refl }
station-self (Whole s) = record { first = refl; hands = refl; morsels = λ place. refl }

-- a node's hands beyond the last one stay no hands
past : (xs ys : List HandState) (i : ℕ) → length ys ≡ length xs → length xs ≤ i → hand_in ys i ≡ hand_in xs i
past xs ys i e l = get_or_past ys i no_hand (omega (arith, e, l)) ∙ sym (get_or_past xs i no_hand l)

station-drew : (s t : Station) (a : ℕ) (n : Option ℕ) → StationDraws s a n t → SameStation s t
station-drew Inner t a n d = d.1
station-drew (Exchange below above) t a n d = d.1
station-drew (Shared s) (Shared t) a n d = record {
  first = d.first;
  workers = d.workers;
  morsels = elim (among s.first s.workers a) [
    | inl m ↦ deck-kept s.deck t.deck n (d.its_own m)
    | inr m ↦ ap (λ (z : DeckState). z.morsels) (d.stranger m).1
  ];
}
station-drew (Shared s) Inner a n d = absurd d
station-drew (Shared s) (Exchange x y) a n d = absurd d
station-drew (Shared s) (Whole t) a n d = absurd d
station-drew (Whole s) Inner a n d = absurd d
station-drew (Whole s) (Exchange x y) a n d = absurd d
station-drew (Whole s) (Shared t) a n d = absurd d
station-drew (Whole s) (Whole t) a n d = record {
  first = d.first;
  hands = d.hands;
  morsels = λ place. elim (cases_eq (s.first + place) a) [
    | inl e ↦ elim (among s.first (length s.hands) a) [
      | inl m ↦
          let at : a - s.first ≡ place = omega (arith, e) in
          let R : ℕ → Type 0 = λ z. HandDraws (hand_in s.hands z) n (hand_in t.hands z) in
          hand-kept (hand_in s.hands place) (hand_in t.hands place) n (subst R at (d.its_own m))
      | inr m ↦ ap (λ (z : HandState). z.morsels) (past s.hands t.hands place d.hands (elim (cases_lt place (length s.hands)) [
        | inl l ↦ absurd (m (omega (arith, e), omega (arith, e, l)))
        | inr l ↦ l
      ]))
    ]
    | inr ne ↦ ap (λ (z : HandState). z.morsels) (d.others place ne)
  ];
}

station-then : (s t u : Station) → SameStation s t → SameStation t u → SameStation s u
station-then Inner t u a b = subst (λ z. SameStation z u) a b
station-then (Exchange x y) t u a b = subst (λ z. SameStation z u) a b
station-then (Shared s) (Shared t) (Shared u) a b = record { first = b.first ∙ a.first; workers = b.workers ∙ a.workers; morsels = b.morsels ∙ a.morsels }
station-then (Shared s) (Shared t) Inner a b = absurd b
station-then (Shared s) (Shared t) (Exchange x y) a b = absurd b
station-then (Shared s) (Shared t) (Whole u) a b = absurd b
station-then (Shared s) Inner u a b = absurd a
station-then (Shared s) (Exchange x y) u a b = absurd a
station-then (Shared s) (Whole t) u a b = absurd a
station-then (Whole s) (Whole t) (Whole u) a b = record { first = b.first ∙ a.first; hands = b.hands ∙ a.hands; morsels = λ i. b.morsels i ∙ a.morsels i }
station-then (Whole s) (Whole t) Inner a b = absurd b
station-then (Whole s) (Whole t) (Exchange x y) a b = absurd b
station-then (Whole s) (Whole t) (Shared u) a b = absurd b
station-then (Whole s) Inner u a b = absurd a
station-then (Whole s) (Exchange x y) u a b = absurd a
station-then (Whole s) (Shared t) u a b = absurd a

pub same-self : (w : LinksView) → SameBoard w w
same-self w = record { sends = refl; stations = λ k. station-self (station_at w k) }

pub same-then : (w v u : LinksView) → SameBoard w v → SameBoard v u → SameBoard w u
same-then w v u a b = record { sends = b.sends ∙ a.sends; stations = λ k. station-then (station_at w k) (station_at v k) (station_at u k) (a.stations k) (b.stations k) }

still : (w v : LinksView) → SameStations w v → (k : ℕ) → SameStation (station_at w k) (station_at v k)
still w v e k = subst (λ z. SameStation (station_at w k) z) (sym (e k)) (station-self (station_at w k))

pub same-does : (w v : LinksView) (e : Event) → Does w e v → SameBoard w v
same-does w v idle d = record { sends = d.tables.sends; stations = still w v d.stations }
same-does w v (drew_one k n) d = record {
  sends = d.tables.sends;
  stations = λ l. elim (cases_eq l k) [
    | inl e ↦ let P : ℕ → Type 0 = λ z. SameStation (station_at w z) (station_at v z) in subst P (sym e) (station-drew (station_at w k) (station_at v k) w.turn n d.here)
    | inr ne ↦ subst (λ z. SameStation (station_at w l) z) (sym (d.others l ne)) (station-self (station_at w l))
  ];
}
same-does w v (took_one x i None) d = record { sends = d.stays.tables.sends; stations = still w v d.stays.stations }
same-does w v (took_one x i (Some p)) d = record { sends = d.tables.sends; stations = still w v d.stations }
same-does w v (put_one j p) d = record { sends = d.tables.sends; stations = still w v d.stations }
