use Rattle.std.proofs.Common.{◌≡◌, ℕ, ◌<◌, [], ◌∷◌, length, get_or}
use Rattle.vx_rows_values.specs.Types.{type_of}
use Rattle.vx_rows_values.specs.ValueView.{cell_val}
use Rattle.vx_ops_computing.proofs.columns.repeated.Given as goal

abbrev pub invariant-loop-k : goal.invariant-loop-k
invariant-loop-k l = record {
  types : l.rows.types ≡ type_of (cell_val l.cell) ∷ [];
  front : l.rows.front ≡ [];
  long : length l.rows.rows ≡ l._k;
  each : (j : ℕ) → j < l._k → get_or l.rows.rows j [] ≡ cell_val l.cell ∷ [];
}
