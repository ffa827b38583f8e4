use Rattle.std.proofs.Common.{◌≡◌, take}
use Rattle.vx_rows_views.specs.Chunks.{all_rows}
use Rattle.vx_exchange.specs.LaneView.{Cuts}
use Rattle.vx_exchange.proofs.lane.Lane.fill_each.Given as goal

abbrev pub invariant-loop-i : goal.invariant-loop-i
invariant-loop-i l = (l.self.way ≡ l.initial.self.way) × (l.self.closed ≡ l.initial.self.closed)
    × Cuts l.initial.self.way l.initial.self.current l.initial.self.ready (all_rows (take l.i l.chunks)) l.self.current l.self.ready
