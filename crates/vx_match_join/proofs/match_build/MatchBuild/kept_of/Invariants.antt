use Rattle.std.proofs.Common.{◌≡◌, ◌-◌, ◌≤◌, take, length}
use Rattle.vx_rows_views.specs.Selected.{places_of}
use Rattle.vx_match_join.specs.Matching.{keeps}
use Rattle.vx_match_join.proofs.match_build.MatchBuild.kept_of.Given as goal

abbrev pub invariant-loop-from : goal.invariant-loop-from
invariant-loop-from l = record {
  within : l.from ≤ length l.chunk.rows;
  places : l.places.items ≡ places_of (keeps l.self) (take l.from l.chunk.rows);
}

abbrev pub decreases-loop-from : goal.decreases-loop-from
decreases-loop-from l = length l.chunk.rows - l.from
