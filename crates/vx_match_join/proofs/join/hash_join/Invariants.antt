use Rattle.std.proofs.Common.{◌≡◌, ◌++◌, ℕ, List, map, length}
use Rattle.vx_rows_values.specs.Values.{Row}
use Rattle.vx_plan_nodes.specs.Serial.{join_rows}
use Rattle.vx_match_join.proofs.join.hash_join.Given as goal

abbrev pub invariant-probes : goal.invariant-probes
invariant-probes l = record {
  build_types : l.build.types ≡ l.right.types;
  build_rows : l.build.rows ≡ l.right.rows;
  build_columns : l.build.columns ≡ l.fn.right_columns.items;
  types : l.joined.types ≡ l.fn.left.types ++ l.right.types;
  rest_types : l.rest.types ≡ l.fn.left.types;
  done : List Row;
  parts : done ++ l.rest.rows ≡ l.fn.left.rows;
  rows : (on : List (ℕ × ℕ)) → l.left_columns ≡ map (λ p. p.0) on → l.fn.right_columns.items ≡ map (λ p. p.1) on → l.joined.rows ≡ join_rows on done l.right.rows;
}

abbrev pub decreases-probes : goal.decreases-probes
decreases-probes l = length l.rest.rows
