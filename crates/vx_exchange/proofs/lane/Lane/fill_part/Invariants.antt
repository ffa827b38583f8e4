use Rattle.std.proofs.Common.{◌≡◌, ◌≤◌, ◌-◌}
use Rattle.std.specs.Prelude.{slice_range}
use Rattle.vx_exchange.specs.LaneView.{Cuts}
use Rattle.vx_exchange.proofs.lane.Lane.fill_part.Given as goal

abbrev pub invariant-loop-from : goal.invariant-loop-from
invariant-loop-from l = record {
  low : l.start ≤ l.from;
  high : l.from ≤ l.end;
  way : l.self.way ≡ l.initial.self.way;
  closed : l.self.closed ≡ l.initial.self.closed;
  cuts : Cuts l.initial.self.way l.initial.self.current l.initial.self.ready (slice_range l.chunk.rows l.start l.from) l.self.current l.self.ready;
}

abbrev pub decreases-loop-from : goal.decreases-loop-from
decreases-loop-from l = l.end - l.from
