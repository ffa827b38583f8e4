-- The rings, decks and hands of a plan's workers in the making, one node after the other (our own).
use Rattle.std.specs.Prelude.{◌≡◌, ℕ, ◌<◌, ◌+◌, ◌⊎◌, Bool, true, false, List, [], ◌∷◌, ◌++◌, length, take, drop, Some, slice_get, slice_index_or}
use Rattle.std.specs.List.{All}
use Rattle.vx_exec_layout.specs.Order.{HasNumber, made_with, made_after, AreInOrder}
use Rattle.vx_exec_layout.specs.declared.span.ExchangeSpan.{ExchangeSpan}
use Rattle.vx_exec_layout.specs.declared.span.ScanSpan.{ScanSpan}
use Rattle.vx_exec_layout.specs.declared.span.NodeSpan.{NodeSpan}
use Rattle.vx_exec_layout.specs.declared.span.NodeSpan.TheVariants.{Inner, Exchange, Scan}
use Rattle.vx_worker.specs.Trace.{empty_trace}
use Rattle.vx_morsel.specs.Hands.{HandState}
use Rattle.vx_morsel_decks.specs.Seats.{DeckView}
use Rattle.vx_ports_rings.specs.Ends.{put_to, taken_from}
use Rattle.vx_ports_rings.specs.declared.ring.RingOut.{RingOut}
use Rattle.vx_exec_threads.specs.declared.inlet.Inlet.{Inlet}
use Rattle.vx_exec_threads.specs.declared.drawer.Drawer.{Drawer}
use Rattle.vx_exec_threads.specs.declared.drawer.Dealer.TheVariants as dealer
use Rattle.vx_exec_threads.specs.declared.deck_place.DeckPlace.{DeckPlace}
use Rattle.vx_exec_threads.specs.Drawers.{DealsAs, Sits}
use Rattle.vx_exec_threads.specs.Holds.{Hold, IsApart, DrawAt}
use Rattle.vx_exec_threads.specs.Joined.{PairAt}
use Rattle.vx_exec_threads.specs.Paired.{IsRingOf}
use Rattle.vx_exec_threads.specs.Wired.{HasDeck, AllSeated}
use Rattle.vx_exec_wiring.specs.Giving.{GivesEach, GainsSeat, MakesRings, holds_of}
use Rattle.vx_exec_wiring.specs.declared.making.Making.{Making}

-- what is made so far: what each worker holds, the decks, and whose they are
pub record Made : Type 0 where
  pub holds : List Hold
  pub decks : List DeckView
  pub places : List DeckPlace

abbrev pub made_of : Making → Made
made_of m = record { holds = holds_of m.shares.items; decks = m.decks.items; places = m.places.items }

-- the worker at the root, with nothing
abbrev pub root_alone : Made
root_alone = record { holds = record { outs = []; ins = []; draws = [] } ∷ []; decks = []; places = [] }

-- how many morsels a relation has, where these relations have so many
abbrev pub counts_in : List ℕ → ℕ → ℕ
counts_in morsels relation = slice_index_or morsels relation 0

-- a shared scan has a deck, and each worker of a whole scan a hand of its own
abbrev pub IsDealt : (counts : ℕ → ℕ) → Made → ScanSpan → (is_shared : Bool) → Type 0
IsDealt counts m s true = HasDeck m.decks m.places s.number s.first s.workers (counts s.relation)
IsDealt counts m s false =
    (w : ℕ) → w < s.workers → (h : HandState) × DrawAt m.holds (s.first + w) s.number (dealer.Hand h) × (h.morsels ≡ counts s.relation)

-- what a node needs was made: rings between all producers and consumers of an exchange, and what the workers of a scan draw from
abbrev pub IsMade : (counts : ℕ → ℕ) → Made → NodeSpan → Type 0
IsMade counts m Inner = Unit {0}
IsMade counts m (Exchange x) = (i j : ℕ) → i < x.producers → j < x.consumers → PairAt IsRingOf m.holds (x.below + i) j (x.above + j) x.number i
IsMade counts m (Scan s) = IsDealt counts m s s.is_shared

-- what a worker held, it holds at the same place
pub record HoldsOn (h g : Hold) : Type 0 where
  pub outs : (j : ℕ) (o : RingOut) → slice_get h.outs j ≡ Some o → slice_get g.outs j ≡ Some o
  pub ins : (k : ℕ) (e : Inlet) → slice_get h.ins k ≡ Some e → slice_get g.ins k ≡ Some e
  pub draws : (k : ℕ) (x : Drawer) → slice_get h.draws k ≡ Some x → slice_get g.draws k ≡ Some x

-- each worker and each deck stays
pub record Keeps (old new : Made) : Type 0 where
  pub holds : (a : ℕ) (h : Hold) → slice_get old.holds a ≡ Some h → (g : Hold) × (slice_get new.holds a ≡ Some g) × HoldsOn h g
  pub decks : (k : ℕ) (d : DeckView) → slice_get old.decks k ≡ Some d → slice_get new.decks k ≡ Some d
  pub places : (k : ℕ) (q : DeckPlace) → slice_get old.places k ≡ Some q → slice_get new.places k ≡ Some q

-- it comes from an exchange with a number below n, or from one of the first i producers of exchange n
abbrev pub IsBefore : (n i : ℕ) → Inlet → Type 0
IsBefore n i e = (e.exchange < n) ⊎ ((e.exchange ≡ n) × (e.from < i))

-- nothing went through what a worker holds; it is of nodes below n, and of the first i producers of node n
pub record IsFresh (decks : List DeckView) (n i : ℕ) (h : Hold) : Type 0 where
  pub apart : IsApart h
  pub outs : (j : ℕ) (o : RingOut) → slice_get h.outs j ≡ Some o → put_to o ≡ []
  pub ins : (k : ℕ) (e : Inlet) → slice_get h.ins k ≡ Some e → (taken_from e.ring ≡ []) × (e.queue.items ≡ []) × IsBefore n i e
  pub draws : (k : ℕ) (x : Drawer) → slice_get h.draws k ≡ Some x → DealsAs x.dealer (empty_trace.drew x.scan) × Sits decks x × (x.scan < n)

-- the same of all workers; and each deck's seats are held by its workers
pub record IsSound (n i : ℕ) (m : Made) : Type 0 where
  pub holds : (a : ℕ) (h : Hold) → slice_get m.holds a ≡ Some h → IsFresh m.decks n i h
  pub places : length m.places ≡ length m.decks
  pub seated : AllSeated m.decks m.places m.holds

-- a deck of so many morsels was added for a scan, and its seats were given to the scan's workers
pub record AddsDeck (s : ScanSpan) (m : ℕ) (old new : Made) : Type 0 where
  pub deck : DeckView
  pub morsels : deck.morsels ≡ m
  pub seats : deck.seats ≡ s.workers
  pub given : GivesEach (GainsSeat s.number (length old.decks) deck) old.holds s.first s.workers new.holds
  pub decks : new.decks ≡ old.decks ++ deck ∷ []
  pub places : new.places ≡ old.places ++ record { scan = s.number; first = s.first; workers = s.workers } ∷ []

-- producer i of an exchange was added behind the other workers, with a ring to each consumer
pub record AddsProducer (x : ExchangeSpan) (i : ℕ) (old new : Made) : Type 0 where
  pub mid : List Hold
  pub outs : List RingOut
  pub makes : MakesRings x i old.holds x.consumers outs mid
  pub holds : new.holds ≡ mid ++ record { outs = outs; ins = []; draws = [] } ∷ []
  pub decks : new.decks ≡ old.decks
  pub places : new.places ≡ old.places

-- the first so many producers of an exchange were added, each with a ring to each consumer
pub record AddsProducers (x : ExchangeSpan) (count : ℕ) (old new : Made) : Type 0 where
  pub length_is : length new.holds ≡ length old.holds + count
  pub keeps : Keeps old new
  pub sound : IsSound x.number 0 old → IsSound x.number count new
  pub rings : (i j : ℕ) → i < count → j < x.consumers → PairAt IsRingOf new.holds (length old.holds + i) j (x.above + j) x.number i

-- what a node needs was added, and the producers of an exchange
pub record AddsSpan (counts : ℕ → ℕ) (s : NodeSpan) (old new : Made) : Type 0 where
  pub length_is : length new.holds ≡ made_with (length old.holds) s
  pub keeps : Keeps old new
  pub sound : (n : ℕ) → HasNumber n s → IsSound n 0 old → IsSound (n + 1) 0 new × IsMade counts new s

-- all that the first k nodes of a plan need was made, and the others can follow
pub record AreMade (counts : ℕ → ℕ) (spans : List NodeSpan) (k : ℕ) (m : Made) : Type 0 where
  pub ordered : AreInOrder k (length m.holds) (drop k spans)
  pub count : made_after (length m.holds) (drop k spans) ≡ made_after 1 spans
  pub sound : IsSound k 0 m
  pub made : All (IsMade counts m) (take k spans)
