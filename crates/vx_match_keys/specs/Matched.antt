-- The right rows that a join lays beside a left row.
use Rattle.std.specs.Prelude.{ℕ, List, ◌++◌, map, filter}
use Rattle.vx_rows_values.specs.Values.{Row, row_eq, pick}

-- a left row with each right row that agrees with it on these columns
abbrev pub matched : List ℕ → List ℕ → List Row → Row → List Row
matched lefts rights rs l = map (λ r. l ++ r) (filter (λ r. row_eq (pick lefts l) (pick rights r)) rs)
