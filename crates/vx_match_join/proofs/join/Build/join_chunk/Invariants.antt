use Rattle.std.proofs.Common.{◌≡◌, ◌-◌, ◌≤◌, take, length, flat_map}
use Rattle.vx_match_join.specs.Build.{ArePairs}
use Rattle.vx_match_keys.specs.Matched.{matched}
use Rattle.vx_match_join.proofs.join.Build.join_chunk.Given as goal

abbrev pub invariant-loop-taken : goal.invariant-loop-taken
invariant-loop-taken l = record {
  within : l.taken ≤ length l.chunk.rows;
  start : l.taken ≡ 0 → length l.pairs.lefts.items ≡ 0;
  pairs : ArePairs l.chunk.rows l.fn.self.rows l.pairs.lefts.items l.pairs.rights.items (flat_map (matched l.columns l.fn.self.columns l.fn.self.rows) (take l.taken l.chunk.rows));
}

abbrev pub decreases-loop-taken : goal.decreases-loop-taken
decreases-loop-taken l = length l.chunk.rows - l.taken
