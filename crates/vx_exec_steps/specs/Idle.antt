-- A board over which nothing went.
use Rattle.std.specs.Prelude.{◌≡◌}
use Rattle.std.specs.List.{All}
use Rattle.vx_morsel.specs.Hands.{HandState}
use Rattle.vx_exec_steps.specs.Queues.{AreEmpty}
use Rattle.vx_exec_steps.specs.LinksView.{LinksView}
use Rattle.vx_exec_steps.specs.declared.station.Station.{Station}
use Rattle.vx_exec_steps.specs.declared.station.Station.TheVariants.{Inner, Exchange, Shared, Whole}

-- a hand for one place of one, which dealt out nothing
abbrev pub IsFullHand : HandState → Type 0
IsFullHand h = (h.size ≡ 1) × (h.next ≡ 0)

-- nothing was drawn at a node
abbrev pub IsUntouched : Station → Type 0
IsUntouched Inner = Unit {0}
IsUntouched (Exchange below above) = Unit {0}
IsUntouched (Shared s) = s.deck.next ≡ 0
IsUntouched (Whole s) = All IsFullHand s.hands

-- all queues are empty, and nothing was drawn
pub record IsIdle (w : LinksView) : Type 0 where
  pub queues : All AreEmpty w.queues
  pub stations : All IsUntouched w.stations
