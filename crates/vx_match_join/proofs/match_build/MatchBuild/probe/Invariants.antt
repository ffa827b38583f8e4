use Rattle.std.proofs.Common.{◌≡◌, take, filter}
use Rattle.vx_rows_views.specs.Chunks.{all_rows}
use Rattle.vx_match_join.specs.Matching.{keeps}
use Rattle.vx_match_join.proofs.match_build.MatchBuild.probe.Given as goal

abbrev pub invariant-loop-i : goal.invariant-loop-i
invariant-loop-i l = record {
  types : l.found.types ≡ l.batch.types;
  rows : l.found.rows ≡ filter (keeps l.self) (all_rows (take l.i l.chunks));
}
