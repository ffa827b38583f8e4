-- The wiring grows by a node, and is whole at the end (our own).
use Rattle.std.proofs.Common.{ℕ, suc, ◌≡◌, ◌<◌, ◌≤◌, ◌+◌, true, false, List, [], ◌∷◌, ◌++◌, length, map, take, drop, Some, refl, sym, ap, ◌∙◌, subst, arith, inl, inr, slice_get, drop-cons, take_all, get_or}
use Rattle.std.proofs.lemmas.Bool.{cases_eq}
use Rattle.std.proofs.lemmas.Option.{slice_get_within, slice_get-get_or, slice_get-map}
use Rattle.std.proofs.lemmas.List.{drop_all, length_push}
use Rattle.std.proofs.lemmas.List.Elements.{All-more, All-weaker, recursion_from_All}
use Rattle.std.specs.List.{All, AllByRecursion}
use Rattle.std.specs.Option.{option_map}
use Rattle.vx_plan_nodes.specs.Plan.{Plan, scan, unary, binary, exchange, size}
use Rattle.vx_plan_nodes.specs.Streams.{workers}
use Rattle.vx_worker.specs.Fragment.{RunModel}
use Rattle.vx_worker.specs.Morsels.{morsel_count}
use Rattle.vx_plan_nodes.specs.Workers.{workers_below}
use Rattle.vx_exec_layout.specs.Layout.{spans_of}
use Rattle.vx_exec_layout.specs.Order.{made_with, made_after, AreInOrder}
use Rattle.vx_exec_layout.specs.declared.span.ExchangeSpan.{ExchangeSpan}
use Rattle.vx_exec_layout.specs.declared.span.ScanSpan.{ScanSpan}
use Rattle.vx_exec_layout.specs.declared.span.NodeSpan.{NodeSpan}
use Rattle.vx_exec_layout.specs.declared.span.NodeSpan.TheVariants.{Inner, Exchange, Scan}
use Rattle.vx_exec_layout.proofs.Each.{each-parts}
use Rattle.vx_exec_layout.proofs.Order.{made-by-plan}
use Rattle.vx_exec_steps.specs.Scans.{full_hand}
use Rattle.vx_morsel_decks.specs.Seats.{DeckView, SeatView, IsSeatOf}
use Rattle.vx_ports_rings.specs.declared.ring.RingOut.{RingOut}
use Rattle.vx_exec_threads.specs.Carrying.{hold_of}
use Rattle.vx_exec_threads.specs.Drawers.{Sits}
use Rattle.vx_exec_threads.specs.Holds.{Hold, OutAt, InAt, DrawAt}
use Rattle.vx_exec_threads.specs.Joined.{PairAt}
use Rattle.vx_exec_threads.specs.Paired.{Paired, IsRingOf}
use Rattle.vx_exec_threads.specs.Wired.{HasDeck, Dealing, IsWired}
use Rattle.vx_exec_threads.specs.declared.deck_place.DeckPlace.{DeckPlace}
use Rattle.vx_exec_threads.specs.declared.drawer.Dealer.TheVariants as dealer
use Rattle.vx_exec_threads.specs.declared.drawer.Drawer.{Drawer}
use Rattle.vx_exec_threads.specs.declared.ends.Ends.{Ends}
use Rattle.vx_exec_wiring.specs.Giving.{GivesEach, GainsDrawer, GainsHand, GainsSeat, GainsRing, MakesRings}
use Rattle.vx_exec_wiring.specs.Making.{Made, IsDealt, IsMade, IsFresh, IsSound, AddsDeck, AddsProducer, AddsProducers, AddsSpan, AreMade}
use Rattle.vx_exec_wiring.proofs.Places.{get-front, get-last, get-snoc, get-below}
use Rattle.vx_exec_wiring.proofs.Each.{each-back}
use Rattle.vx_exec_wiring.proofs.Staying.{AllOn, on-drawer, on-inlet, each-on, on-snoc, keeps-self, keeps-then, pair-on, seated-on, made-on}
use Rattle.vx_exec_wiring.proofs.Fresh.{DecksOn, fresh-more, fresh-outs, fresh-drawer, fresh-inlet, fresh-bears, hand-deals, hand-sits, seat-sits}

-- of its parts
made-is : (m : Made) (hs : List Hold) (ds : List DeckView) (qs : List DeckPlace) → m.holds ≡ hs → m.decks ≡ ds → m.places ≡ qs
    → record { holds = hs; decks = ds; places = qs } ≡ m
made-is m hs ds qs eh ed eq =
    sym (ap (λ x. record { holds = x; decks = m.decks; places = m.places }) eh ∙ ap (λ x. record { holds = hs; decks = x; places = m.places }) ed
    ∙ ap (λ x. record { holds = hs; decks = ds; places = x }) eq)

-- a later bound
sound-more : (n i j : ℕ) (m : Made) → IsSound n i m → IsSound (n + 1) j m
sound-more n i j m x = record {
  holds = λ a h e. fresh-more m.decks m.decks n i (n + 1) j h (λ k d q. q) (inl (omega arith)) (omega arith) (x.holds a h e);
  places = x.places;
  seated = x.seated;
}

-- what a worker was given to draw from
drawn-at : (hs : List Hold) (a : ℕ) (x : Drawer) (h g : Hold) → slice_get hs a ≡ Some g → GainsDrawer x h g → DrawAt hs a x.scan x.dealer
drawn-at hs a x h g at gains = record {
  hold = g;
  worker = at;
  k = length h.draws;
  x = x;
  place = ap (λ (v : Hold). slice_get v.draws (length h.draws)) gains ∙ get-last h.draws x;
  scan = refl;
  dealer = refl;
}

pub adds-inner : (counts : ℕ → ℕ) (m : Made) → AddsSpan counts Inner m m
adds-inner counts m = record { length_is = refl; keeps = keeps-self m; sound = λ n is s. (sound-more n 0 0 m s, tt) }

-- hands for the workers of a scan
pub adds-hands : (counts : ℕ → ℕ) (s : ScanSpan) (old : Made) (hs : List Hold) → s.is_shared ≡ false → s.first + s.workers ≤ length old.holds
    → GivesEach (GainsHand s.number (counts s.relation)) old.holds s.first s.workers hs → AddsSpan counts (Scan s) old (record { holds = hs; decks = old.decks; places = old.places })
adds-hands counts s old hs whole there x =
    let m = counts s.relation in
    let hand : Drawer = record { scan = s.number; dealer = dealer.Hand (full_hand m) } in
    let new : Made = record { holds = hs; decks = old.decks; places = old.places } in
    let on : AllOn old.holds hs = each-on (GainsHand s.number m) old.holds s.first s.workers hs (λ w h g e. on-drawer _ h g e) x in
    record {
      length_is = x.length_is;
      keeps = record { holds = on; decks = λ k d e. e; places = λ k q e. e };
      sound = λ n is t. (
        record {
          holds = λ a g e. elim (each-back (GainsHand s.number m) old.holds s.first s.workers hs x a g e) [
            | inl q ↦ fresh-more old.decks old.decks n 0 (n + 1) 0 g (λ k d u. u) (inl (omega arith)) (omega arith) (t.holds a g q)
            | inr q ↦ fresh-drawer old.decks old.decks n hand q.1 g (λ k d u. u) is (hand-deals m) (hand-sits old.decks s.number m) q.4 (t.holds a q.1 q.3)
          ];
          places = t.places;
          seated = seated-on old.holds hs on old.decks old.places t.seated;
        },
        subst (λ b. IsDealt counts new s b) (sym whole) (λ w l.
            let h = get-below old.holds (s.first + w) (omega (arith, l, there)) in
            let g = x.here w l h.0 h.1 in
            (full_hand m, drawn-at hs (s.first + w) hand h.0 g.0 g.1 g.2, refl)),
      );
    }

-- a deck, and its seats
seats-given : (counts : ℕ → ℕ) (s : ScanSpan) (old : Made) (hs : List Hold) (deck : DeckView) → s.is_shared ≡ true → s.first + s.workers ≤ length old.holds
    → deck.morsels ≡ counts s.relation → deck.seats ≡ s.workers → GivesEach (GainsSeat s.number (length old.decks) deck) old.holds s.first s.workers hs
    → AddsSpan counts (Scan s) old (record { holds = hs; decks = old.decks ++ deck ∷ []; places = old.places ++ record { scan = s.number; first = s.first; workers = s.workers } ∷ [] })
seats-given counts s old hs deck shared there many seats x =
    let number = length old.decks in
    let at : DeckPlace = record { scan = s.number; first = s.first; workers = s.workers } in
    let new : Made = record { holds = hs; decks = old.decks ++ deck ∷ []; places = old.places ++ at ∷ [] } in
    let on : AllOn old.holds hs = each-on (GainsSeat s.number number deck) old.holds s.first s.workers hs (λ w h g e. on-drawer _ h g e.2) x in
    let more : DecksOn old.decks new.decks = λ k d e. get-front old.decks (deck ∷ []) k d e in
    let here : slice_get new.decks number ≡ Some deck = get-last old.decks deck in
    let seat : (w : ℕ) → w < s.workers → (y : SeatView) × DrawAt hs (s.first + w) s.number (dealer.Seat number y) × IsSeatOf deck y = λ w l.
    let h = get-below old.holds (s.first + w) (omega (arith, l, there)) in
    let g = x.here w l h.0 h.1 in
    (g.2.0, drawn-at hs (s.first + w) (record { scan = s.number; dealer = dealer.Seat number g.2.0 }) h.0 g.0 g.1 g.2.2, g.2.1.0)
    in
    record {
      length_is = x.length_is;
      keeps = record { holds = on; decks = more; places = λ k q e. get-front old.places (at ∷ []) k q e };
      sound = λ n is t.
          let same = t.places in (
            record {
              holds = λ a g e. elim (each-back (GainsSeat s.number number deck) old.holds s.first s.workers hs x a g e) [
                | inl q ↦ fresh-more old.decks new.decks n 0 (n + 1) 0 g more (inl (omega arith)) (omega arith) (t.holds a g q)
                | inr q ↦
                    fresh-drawer old.decks new.decks n (record { scan = s.number; dealer = dealer.Seat number q.4.0 }) q.1 g more is
                    (sym q.4.1.1) (seat-sits new.decks s.number number deck q.4.0 here q.4.1.0) q.4.2 (t.holds a q.1 q.3)
              ];
              places = length_push old.places at ∙ ap (λ (v : ℕ). v + 1) same ∙ sym (length_push old.decks deck);
              seated = λ k d q ed eq. elim (get-snoc old.decks deck k d ed) [
                | inl a ↦ elim (get-snoc old.places at k q eq) [
                  | inl b ↦ seated-on old.holds hs on old.decks old.places t.seated k d q a b
                  | inr b ↦ let w = slice_get_within old.decks k d a in let kb = b.0 in absurd (omega (arith, w, kb, same))
                ]
                | inr a ↦ elim (get-snoc old.places at k q eq) [
                  | inl b ↦ let w = slice_get_within old.places k q b in let ka = a.0 in absurd (omega (arith, w, ka, same))
                  | inr b ↦ subst (λ (v : DeckPlace). (d.seats ≡ v.workers)
                      × ((w : ℕ) → w < v.workers → (y : SeatView) × DrawAt hs (v.first + w) v.scan (dealer.Seat k y) × IsSeatOf d y)) (sym b.1)
                      (subst (λ (u : DeckView). (u.seats ≡ s.workers)
                      × ((w : ℕ) → w < s.workers → (y : SeatView) × DrawAt hs (s.first + w) s.number (dealer.Seat k y) × IsSeatOf u y)) (sym a.1)
                      (subst (λ (v : ℕ). (deck.seats ≡ s.workers)
                      × ((w : ℕ) → w < s.workers → (y : SeatView) × DrawAt hs (s.first + w) s.number (dealer.Seat v y) × IsSeatOf deck y)) (sym a.0) (seats, seat)))
                ]
              ];
            },
            subst (λ b. IsDealt counts new s b) (sym shared) (record {
              k = number;
              deck = deck;
              here = here;
              morsels = many;
              at = at;
              place = subst (λ (v : ℕ). slice_get new.places v ≡ Some at) same (get-last old.places at);
              scan = refl;
              first = refl;
              workers = refl;
            }),
          );
    }

-- the same, of what was made
pub adds-deck : (counts : ℕ → ℕ) (s : ScanSpan) (old new : Made) → s.is_shared ≡ true → s.first + s.workers ≤ length old.holds
    → AddsDeck s (counts s.relation) old new → AddsSpan counts (Scan s) old new
adds-deck counts s old new shared there x =
    subst (λ v. AddsSpan counts (Scan s) old v) (made-is new _ _ _ refl x.decks x.places)
    (seats-given counts s old new.holds x.deck shared there x.morsels x.seats x.given)

-- one producer behind the others
producer-given : (x : ExchangeSpan) (i : ℕ) (old mid : Made) (hs : List Hold) (outs : List RingOut) → x.above + x.consumers ≤ length old.holds
    → AddsProducers x i old mid → MakesRings x i mid.holds x.consumers outs hs
    → AddsProducers x (i + 1) old (record { holds = hs ++ record { outs = outs; ins = []; draws = [] } ∷ []; decks = mid.decks; places = mid.places })
producer-given x i old mid hs outs there was made =
    let n = x.number in
    let last : Hold = record { outs = outs; ins = []; draws = [] } in
    let new : Made = record { holds = hs ++ last ∷ []; decks = mid.decks; places = mid.places } in
    let P = GainsRing n i outs in
    let first : AllOn mid.holds hs = each-on P mid.holds x.above x.consumers hs (λ w h g r. on-inlet r.inlet h g r.gains) made.given in
    let on : AllOn mid.holds new.holds = on-snoc mid.holds hs last first in
    let long : length hs ≡ length old.holds + i = made.given.length_is ∙ was.length_is in
    record {
      length_is = length_push hs last ∙ omega (arith, long);
      keeps = keeps-then old mid new was.keeps (record { holds = on; decks = λ k d e. e; places = λ k q e. e });
      sound = λ s0.
          let s = was.sound s0 in
          record {
            holds = λ a g e. elim (get-snoc hs last a g e) [
              | inl q ↦ elim (each-back P mid.holds x.above x.consumers hs made.given a g q) [
                | inl u ↦ fresh-more mid.decks mid.decks n i n (i + 1) g (λ k d v. v) (inr (refl, omega arith)) (omega arith) (s.holds a g u)
                | inr u ↦ fresh-inlet mid.decks mid.decks n i u.4.out u.4.inlet u.1 g (λ k d v. v) u.4.ring u.4.gains (s.holds a u.1 u.3)
              ]
              | inr q ↦ subst (λ v. IsFresh mid.decks n (i + 1) v) (sym q.1) (fresh-outs mid.decks n (i + 1) outs made.fresh)
            ];
            places = s.places;
            seated = seated-on mid.holds new.holds on mid.decks mid.places s.seated;
          };
      rings = λ k j lk lj. elim (cases_eq k i) [
        | inr ne ↦ pair-on mid.holds new.holds on (length old.holds + k) j (x.above + j) n k (was.rings k j (omega (arith, lk, ne)) lj)
        | inl e ↦
            let before = was.length_is in
            let h = get-below mid.holds (x.above + j) (omega (arith, there, before, lj)) in
            let g = made.given.here j lj h.0 h.1 in
            let r = g.2 in
            let out : OutAt new.holds (length old.holds + i) j r.out = record {
              hold = last;
              worker = subst (λ (v : ℕ). slice_get (hs ++ last ∷ []) v ≡ Some last) long (get-last hs last);
              place = r.at;
            }
            in
            let inn : InAt new.holds (x.above + j) n i r.inlet = record {
              hold = g.0;
              worker = get-front hs (last ∷ []) (x.above + j) g.0 g.1;
              k = length h.0.ins;
              place = ap (λ (v : Hold). slice_get v.ins (length h.0.ins)) r.gains ∙ get-last h.0.ins r.inlet;
              exchange = r.ring.exchange;
              from = r.ring.from;
            }
            in
            subst (λ (v : ℕ). PairAt IsRingOf new.holds (length old.holds + v) j (x.above + j) n v) (sym e) (r.out, r.inlet, out, inn, r.ring.ring)
      ];
    }

pub producers-more : (x : ExchangeSpan) (i : ℕ) (old mid new : Made) → x.above + x.consumers ≤ length old.holds
    → AddsProducers x i old mid → AddsProducer x i mid new → AddsProducers x (i + 1) old new
producers-more x i old mid new there was made =
    subst (λ v. AddsProducers x (i + 1) old v) (made-is new _ _ _ made.holds made.decks made.places) (producer-given x i old mid made.mid made.outs there was made.makes)

-- a producer makes one worker more
pub producer-longer : (x : ExchangeSpan) (i : ℕ) (old new : Made) → AddsProducer x i old new → length old.holds ≤ length new.holds
producer-longer x i old new made =
    let a = made.makes.given.length_is in
    let b : length new.holds ≡ length made.mid + 1 = ap length made.holds ∙ length_push made.mid _ in
    omega (arith, a, b)

-- all producers of an exchange, which come behind the other workers
pub adds-exchange : (counts : ℕ → ℕ) (x : ExchangeSpan) (old new : Made) → x.below ≡ length old.holds → AddsProducers x x.producers old new → AddsSpan counts (Exchange x) old new
adds-exchange counts x old new below made = record {
  length_is = made.length_is;
  keeps = made.keeps;
  sound = λ n is s. (
    sound-more n x.producers 0 new (subst (λ (v : ℕ). IsSound v x.producers new) is (made.sound (subst (λ (v : ℕ). IsSound v 0 old) (sym is) s))),
    subst (λ (v : ℕ). (i j : ℕ) → i < x.producers → j < x.consumers → PairAt IsRingOf new.holds (v + i) j (x.above + j) x.number i) (sym below) made.rings,
  );
}

-- ---- all nodes, one after the other

pub made-more : (counts : ℕ → ℕ) (spans : List NodeSpan) (k : ℕ) (old new : Made) → k < length spans → AreMade counts spans k old
    → AddsSpan counts (get_or spans k Inner) old new → AreMade counts spans (k + 1) new
made-more counts spans k old new lt was x =
    let s : NodeSpan = get_or spans k Inner in
    let rest : drop k spans ≡ s ∷ drop (suc k) spans = drop-cons spans k Inner lt in
    let here : AreInOrder k (length old.holds) (s ∷ drop (suc k) spans) = subst (λ z. AreInOrder k (length old.holds) z) rest was.ordered in
    let now = x.sound k here.0 was.sound in
    let next : suc k ≡ k + 1 = omega arith in
    record {
      ordered = subst (λ v. AreInOrder v (length new.holds) (drop v spans)) next (subst (λ v. AreInOrder (suc k) v (drop (suc k) spans)) (sym x.length_is) here.2);
      count = ap (λ v. made_after v (drop (k + 1) spans)) x.length_is ∙ ap (λ v. made_after (made_with (length old.holds) s) (drop v spans)) (sym next)
          ∙ sym (ap (λ z. made_after (length old.holds) z) rest) ∙ was.count;
      sound = now.0;
      made = All-more (IsMade counts new) spans k Inner lt (All-weaker (IsMade counts old) (IsMade counts new) (made-on counts old new x.keeps) (take k spans) was.made) now.1;
    }

module _ (S : RunModel) (counts : ℕ → ℕ) (same : (r : ℕ) → counts r ≡ morsel_count S.morsel (length (S.db r))) (m : Made) where
  -- what was made for the spans of a plan is what the plan says
  plan-made : (p : Plan) (top next : ℕ) → AllByRecursion (IsMade counts m) (spans_of S.sizes p top next)
      → Paired S p top next m.holds × Dealing S m.decks m.places p top next m.holds
  plan-made (scan n c r true z) top next h = (tt, subst (λ (v : ℕ). HasDeck m.decks m.places n top (workers S.sizes z) v) (same r) h.0)
  plan-made (scan n c r false z) top next h = (tt, λ w l. let y = h.0 w l in (y.0, y.1, y.2 ∙ same r))
  plan-made (unary n c op p) top next h = plan-made p top next h.1
  plan-made (binary n c op p q) top next h =
      let right = spans_of S.sizes q top (next + workers_below S.sizes p) in
      let z = each-parts (IsMade counts m) (spans_of S.sizes p top next) right h.1 in
      let a = plan-made p top next z.0 in
      let b = plan-made q top (next + workers_below S.sizes p) z.1 in
      ((a.0, b.0), (a.1, b.1))
  plan-made (exchange n c k merge p) top next h = let a = plan-made p next (next + workers S.sizes (size p)) h.1 in ((h.0, a.0), a.1)

-- all of a plan was made
pub all-wired : (S : RunModel) (counts : ℕ → ℕ) (p : Plan) (spans : List NodeSpan) (m : Made) → spans ≡ spans_of S.sizes p 0 1
    → ((r : ℕ) → counts r ≡ morsel_count S.morsel (length (S.db r))) → AreMade counts spans (length spans) m → IsWired S p m.decks m.places m.holds
all-wired S counts p spans m are same x =
    let made : All (IsMade counts m) spans = subst (λ z. All (IsMade counts m) z) (take_all (length spans) spans (omega arith)) x.made in
    let z = plan-made S counts same m p 0 1 (recursion_from_All (IsMade counts m) (spans_of S.sizes p 0 1) (subst (λ v. All (IsMade counts m) v) are made)) in
    record {
      count = sym (ap (λ v. made_after (length m.holds) v) (drop_all (length spans) spans (omega arith))) ∙ x.count ∙ ap (λ v. made_after 1 v) are ∙ made-by-plan S.sizes p 0 1;
      fresh = λ a h e. fresh-bears m.decks _ 0 h (x.sound.holds a h e);
      paired = z.0;
      dealing = z.1;
      matched = x.sound.places;
      seated = x.sound.seated;
    }

-- each seat is one of its deck
pub all-sit : (n i : ℕ) (new : Made) (es : List Ends) → map hold_of es ≡ new.holds → IsSound n i new → All (λ (e : Ends). All (Sits new.decks) e.draws.items) es
all-sit n i new es is s k d l j x lj =
    let e = get_or es k d in
    let at : slice_get new.holds k ≡ Some (hold_of e) = ap (λ hs. slice_get hs k) (sym is) ∙ (slice_get-map hold_of es k ∙ ap (option_map hold_of) (slice_get-get_or es k d l)) in
    ((s.holds k (hold_of e) at).draws j (get_or e.draws.items j x) (slice_get-get_or e.draws.items j x lj)).1
