use Rattle.std.proofs.Common.{◌≡◌, ◌++◌, [], false, take, get_or}
use Rattle.std.specs.List.{list_any}
use Rattle.vx_rows.specs.View.{row}
use Rattle.vx_plan_nodes.specs.Serial.{passes}
use Rattle.vx_match_join.proofs.match_build.MatchBuild.some_listed_passes.Given as goal

abbrev pub invariant-loop-k : goal.invariant-loop-k
invariant-loop-k l = list_any (λ p. passes l.self.conditions (row l.chunk l.i ++ get_or l.self.rows p [])) (take l.k l.places) ≡ false
