-- When queues, decks and hands hold what the traces of all workers say.
use Rattle.std.specs.Prelude.{ℕ, ◌≡◌, ◌<◌, ◌≤◌, ◌+◌, true, List, [], ◌∷◌, ◌++◌, length, Some, slice_get}
use Rattle.std.specs.List.{slice_index_or}
use Rattle.vx_plan_nodes.specs.Streams.{across}
use Rattle.vx_morsel.specs.Draws.{Draws, times, once_below, Rises}
use Rattle.vx_morsel.specs.Hands.{HandState}
use Rattle.vx_worker.specs.Trace.{Trace, empty_trace}
use Rattle.vx_exec_steps.specs.Scans.{hand_in}
use Rattle.vx_exec_steps.specs.LinksView.{LinksView, queue_at, station_at}
use Rattle.vx_exec_steps.specs.declared.station.Station.{Station}
use Rattle.vx_exec_steps.specs.declared.station.Station.TheVariants.{Inner, Exchange, Shared, Whole}

-- the trace of the worker with this number
abbrev pub trace_at : List Trace → ℕ → Trace
trace_at ts i = slice_index_or ts i empty_trace

-- each number of the list is below n
abbrev pub AllUnder : ℕ → List ℕ → Type 0
AllUnder n [] = Unit {0}
AllUnder n (y ∷ ys) = (y < n) × AllUnder n ys

-- n seats drew the numbers below t of m morsels, each once; the end was met only where t is m
pub record DrewBelow (n m t : ℕ) (seats : ℕ → Draws) : Type 0 where
  pub rise : (w : ℕ) → w < n → Rises (seats w).numbers
  pub under : (w : ℕ) → w < n → AllUnder t (seats w).numbers
  pub each : (x : ℕ) → across n (λ w. times x (seats w).numbers) ≡ once_below x t
  pub most : t ≤ m
  pub ended : (w : ℕ) → w < n → (seats w).met_end ≡ true → t ≡ m

-- one seat drew all numbers below the hand's next one
pub record DrewByHand (h : HandState) (d : Draws) : Type 0 where
  pub one : h.size ≡ 1
  pub drew : DrewBelow 1 h.morsels h.next (λ w. d)

-- what the workers drew at a node, by their numbers, is what its deck or hands dealt out
abbrev pub HasDealt : Station → (ℕ → Draws) → Type 0
HasDealt Inner drew = Unit {0}
HasDealt (Exchange below above) drew = Unit {0}
HasDealt (Shared s) drew = DrewBelow s.workers s.deck.morsels s.deck.next (λ w. drew (s.first + w))
HasDealt (Whole s) drew = (w : ℕ) → w < length s.hands → DrewByHand (hand_in s.hands w) (drew (s.first + w))

-- for each pair of producer i and consumer j of an exchange: what was sent is what came and then the queue;
-- for each scan: the numbers that its workers drew are those dealt out
pub record Agrees (w : LinksView) (ts : List Trace) : Type 0 where
  pub flows : (x below above i j : ℕ) → station_at w x ≡ Exchange below above → slice_get w.sends (below + i) ≡ Some x
      → (trace_at ts (below + i)).sent j ≡ (trace_at ts (above + j)).came x i ++ queue_at w (below + i) j
  pub draws : (k : ℕ) → HasDealt (station_at w k) (λ a. (trace_at ts a).drew k)
