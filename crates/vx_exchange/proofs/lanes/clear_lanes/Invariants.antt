use Rattle.std.proofs.Common.{◌≡◌, ℕ, ◌<◌, []}
use Rattle.vx_exchange.specs.LaneView.{LaneView}
use Rattle.vx_exchange.specs.Lanes.{IsLane, SameLanes}
use Rattle.vx_exchange.proofs.lanes.clear_lanes.Given as goal

abbrev pub invariant-loop-consumer : goal.invariant-loop-consumer
invariant-loop-consumer l = SameLanes l.initial.lanes.items l.lanes.items × ((j : ℕ) (o : LaneView) → j < l.consumer → IsLane l.lanes.items j o → o.ready ≡ [])
    × ((j : ℕ) (o : LaneView) → j < l.consumer → IsLane l.lanes.items j o → o.current ≡ [])
