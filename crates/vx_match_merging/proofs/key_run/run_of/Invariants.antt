use Rattle.std.proofs.Common.{◌≡◌, ◌≤◌, ◌++◌, ◌∷◌, [], List, take, true}
use Rattle.vx_rows_values.specs.Values.{Row}
use Rattle.vx_rows_values.specs.Order.{sorted}
use Rattle.vx_rows.specs.View.{row}
use Rattle.vx_match_merging.specs.Merged.{HasMerged, state_at}
use Rattle.vx_match_merging.proofs.key_run.run_of.Given as goal

abbrev pub invariant-loop-end : goal.invariant-loop-end
invariant-loop-end l = record {
  order : l.start ≤ l.end;
  taken : (ls passed : List Row) → sorted l.right_order (passed ++ l.right.rows) ≡ true
      → HasMerged (state_at l.left_order l.right_order (ls ++ row l.left l.i ∷ []) passed l.fn.from.start l.fn.from.end) (ls ++ row l.left l.i ∷ []) (passed ++ take l.fn.from.end l.right.rows)
      → HasMerged (state_at l.left_order l.right_order (ls ++ row l.left l.i ∷ []) passed l.start l.end) (ls ++ row l.left l.i ∷ []) (passed ++ take l.end l.right.rows);
}
