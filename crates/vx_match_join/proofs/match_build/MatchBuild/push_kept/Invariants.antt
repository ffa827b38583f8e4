use Rattle.std.proofs.Common.{◌≡◌, ◌+◌, take}
use Rattle.vx_rows_views.specs.Selected.{places_of}
use Rattle.vx_match_join.specs.Matching.{keeps}
use Rattle.vx_match_join.proofs.match_build.MatchBuild.push_kept.Given as goal

abbrev pub invariant-loop-i : goal.invariant-loop-i
invariant-loop-i l = l.places.items ≡ places_of (keeps l.self) (take (l.from + l.i) l.chunk.rows)
