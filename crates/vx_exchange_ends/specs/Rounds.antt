-- Round robin as a producer does it: its rows in turn, which is one of the ways that the run relation allows.
use Rattle.std.specs.Prelude.{ℕ, suc, ◌<◌, ◌%◌, ◌==◌, cond, List, [], ◌∷◌}
use Rattle.vx_rows_values.specs.Values.{Row}
use Rattle.vx_plan_nodes.specs.Streams.{Dealt}

-- the rows for consumer j of n, of a list whose first row is a producer's row i, counted from 0: row r goes to consumer r mod n
abbrev pub in_turn : (i n j : ℕ) → List Row → List Row
in_turn i n j [] = []
in_turn i n j (x ∷ xs) = cond (i % n == j) (x ∷ in_turn (suc i) n j xs) (in_turn (suc i) n j xs)

-- so each row goes to one consumer
abbrev pub TurnsAreDealt : Type 0
TurnsAreDealt = (n : ℕ) → 0 < n → (xs : List Row) → Dealt n xs (λ j. in_turn 0 n j xs)
