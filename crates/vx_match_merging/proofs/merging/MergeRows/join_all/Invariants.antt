use Rattle.std.proofs.Common.{◌≡◌, ◌++◌, List}
use Rattle.vx_rows_values.specs.Values.{Row}
use Rattle.vx_match_merging.specs.AtHand.{rows_at_hand}
use Rattle.vx_match_merging.specs.Merged.{HasSameInputs, HasJoined}
use Rattle.vx_match_merging.proofs.merging.MergeRows.join_all.Given as goal

abbrev pub invariant-loop-joined : goal.invariant-loop-joined
invariant-loop-joined l = record {
  inputs : HasSameInputs l.fn.self l.self;
  types : l.joined.types ≡ l.fn.self.left.types ++ l.fn.self.right.types;
  joined : (ls rs ys : List Row) → HasJoined l.fn.self ls rs ys → HasJoined l.self ls rs (ys ++ l.joined.rows);
}

abbrev pub decreases-loop-joined : goal.decreases-loop-joined
decreases-loop-joined l = rows_at_hand l.self
