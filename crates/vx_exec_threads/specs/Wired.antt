-- What the threads of a plan hold before the first step: rings between the workers of each exchange, and a deck or hands for each scan (our own).
use Rattle.std.specs.Prelude.{◌≡◌, ℕ, ◌<◌, ◌+◌, true, false, List, length, Some, slice_get}
use Rattle.vx_plan_nodes.specs.Plan.{Plan, scan, unary, binary, exchange, size}
use Rattle.vx_plan_nodes.specs.Streams.{workers}
use Rattle.vx_morsel.specs.Hands.{HandState}
use Rattle.vx_worker.specs.Fragment.{RunModel}
use Rattle.vx_worker.specs.Morsels.{morsel_count}
use Rattle.vx_worker.specs.Trace.{empty_trace}
use Rattle.vx_plan_nodes.specs.Workers.{workers_below, crew_size}
use Rattle.vx_morsel_decks.specs.Seats.{DeckView, SeatView, IsSeatOf}
use Rattle.vx_exec_threads.specs.declared.deck_place.DeckPlace.{DeckPlace}
use Rattle.vx_exec_threads.specs.declared.drawer.Dealer.TheVariants as dealer
use Rattle.vx_exec_threads.specs.Holds.{Hold, Bears, DrawAt}
use Rattle.vx_exec_threads.specs.Paired.{Paired}

-- some deck deals so many morsels to the workers of scan n, of whom there are so many, from worker `top` on
pub record HasDeck (decks : List DeckView) (places : List DeckPlace) (n top count m : ℕ) : Type 0 where
  pub k : ℕ
  pub deck : DeckView
  pub here : slice_get decks k ≡ Some deck
  pub morsels : deck.morsels ≡ m
  pub at : DeckPlace
  pub place : slice_get places k ≡ Some at
  pub scan : at.scan ≡ n
  pub first : at.first ≡ top
  pub workers : at.workers ≡ count

-- each shared scan has a deck, and each worker of a whole scan a hand of its own; the workers of the plan's top fragment begin at `top`, those
-- below it at `next`
abbrev pub Dealing : RunModel → List DeckView → List DeckPlace → Plan → (top next : ℕ) → List Hold → Type 0
Dealing S ds qs (scan n c r true z) top next hs = HasDeck ds qs n top (workers S.sizes z) (morsel_count S.morsel (length (S.db r)))
Dealing S ds qs (scan n c r false z) top next hs =
    (w : ℕ) → w < workers S.sizes z → (h : HandState) × DrawAt hs (top + w) n (dealer.Hand h) × (h.morsels ≡ morsel_count S.morsel (length (S.db r)))
Dealing S ds qs (unary n c op p) top next hs = Dealing S ds qs p top next hs
Dealing S ds qs (binary n c op p q) top next hs = Dealing S ds qs p top next hs × Dealing S ds qs q top (next + workers_below S.sizes p) hs
Dealing S ds qs (exchange n c k merge p) top next hs = Dealing S ds qs p next (next + workers S.sizes (size p)) hs

-- the workers of each deck's scan hold its seats, all of them
abbrev pub AllSeated : List DeckView → List DeckPlace → List Hold → Type 0
AllSeated ds qs hs = (k : ℕ) (d : DeckView) (q : DeckPlace) → slice_get ds k ≡ Some d → slice_get qs k ≡ Some q
    → (d.seats ≡ q.workers) × ((w : ℕ) → w < q.workers → (s : SeatView) × DrawAt hs (q.first + w) q.scan (dealer.Seat k s) × IsSeatOf d s)

-- all workers of a plan hold the ends of its rings, and their seats and hands; nothing went through a ring or was drawn
pub record IsWired (S : RunModel) (p : Plan) (decks : List DeckView) (places : List DeckPlace) (hs : List Hold) : Type 0 where
  pub count : length hs ≡ crew_size S.sizes p
  pub fresh : (a : ℕ) (h : Hold) → slice_get hs a ≡ Some h → Bears h empty_trace
  pub paired : Paired S p 0 1 hs
  pub dealing : Dealing S decks places p 0 1 hs
  pub matched : length places ≡ length decks
  pub seated : AllSeated decks places hs
