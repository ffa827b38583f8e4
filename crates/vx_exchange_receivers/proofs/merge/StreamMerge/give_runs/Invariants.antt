use Rattle.std.proofs.Common.{◌≡◌, ◌≤◌, ◌+◌, ◌-◌, ◌++◌, ℕ, Bool, List, [], length, None}
use Rattle.vx_rows_values.specs.Values.{Row}
use Rattle.vx_plan_nodes.specs.Streams.{Streams}
use Rattle.vx_exchange_receivers.specs.Heads.{SameEnds, all_left}
use Rattle.vx_exchange_receivers.specs.Merge.{HasMerged, HasSameShape}
use Rattle.vx_exchange_receivers.proofs.merge.StreamMerge.give_runs.Given as goal

abbrev pub invariant-runs : goal.invariant-runs
invariant-runs l = record {
  shape : HasSameShape l.initial.self l.self;
  types : l.found.types ≡ l.initial.self.types;
  ends : SameEnds l.initial.self.heads l.self.heads;
  left : all_left l.self.heads + length l.found.rows ≤ all_left l.initial.self.heads;
  none : l.found.rows ≡ [] → l.self.missing ≡ None;
  merged : (closed : ℕ → Bool) (came : Streams) (given : List Row) → HasMerged l.initial.self closed came given → HasMerged l.self closed came (given ++ l.found.rows);
}

abbrev pub decreases-runs : goal.decreases-runs
decreases-runs l = 4096 - length l.found.rows
