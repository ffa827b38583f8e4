-- The same connections between workers, whatever went over them.
use Rattle.std.specs.Prelude.{ℕ, ◌≡◌, length}
use Rattle.vx_exec_steps.specs.Scans.{SharedState, WholeState, hand_in}
use Rattle.vx_exec_steps.specs.LinksView.{LinksView, station_at}
use Rattle.vx_exec_steps.specs.declared.station.Station.{Station}
use Rattle.vx_exec_steps.specs.declared.station.Station.TheVariants.{Inner, Exchange, Shared, Whole}

-- the same workers share as many morsels
pub record SameShared (s t : SharedState) : Type 0 where
  pub first : t.first ≡ s.first
  pub workers : t.workers ≡ s.workers
  pub morsels : t.deck.morsels ≡ s.deck.morsels

-- the same workers read as many morsels each
pub record SameWhole (s t : WholeState) : Type 0 where
  pub first : t.first ≡ s.first
  pub hands : length t.hands ≡ length s.hands
  pub morsels : (place : ℕ) → (hand_in t.hands place).morsels ≡ (hand_in s.hands place).morsels

abbrev pub SameStation : Station → Station → Type 0
SameStation Inner t = t ≡ Inner
SameStation (Exchange below above) t = t ≡ Exchange below above
SameStation (Shared s) (Shared t) = SameShared s t
SameStation (Shared s) t = ⊥
SameStation (Whole s) (Whole t) = SameWhole s t
SameStation (Whole s) t = ⊥

-- each worker sends to the same exchange, and each node connects the same workers
pub record SameBoard (w v : LinksView) : Type 0 where
  pub sends : v.sends ≡ w.sends
  pub stations : (k : ℕ) → SameStation (station_at w k) (station_at v k)
