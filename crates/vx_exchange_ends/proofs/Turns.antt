-- Rows in turn.
use Rattle.std.proofs.Common.{◌≡◌, ℕ, suc, ◌<◌, ◌%◌, ◌==◌, nat_lt, true, cond, List, [], ◌∷◌, map, refl, ap, arith, lt-ltb}
use Rattle.std.specs.List.{list_all}
use Rattle.vx_rows_values.specs.Values.{Row}
use Rattle.vx_plan_nodes.specs.Streams.{bearing}
use Rattle.vx_exchange_ends.specs.Rounds.{in_turn, TurnsAreDealt}

-- each row with its consumer
abbrev numbered_from : (i n : ℕ) → List Row → List (ℕ × Row)
numbered_from i n [] = []
numbered_from i n (x ∷ xs) = (i % n, x) ∷ numbered_from (suc i) n xs

rows-stay : (i n : ℕ) (xs : List Row) → map (λ t. t.1) (numbered_from i n xs) ≡ xs
rows-stay i n [] = refl
rows-stay i n (x ∷ xs) = ap (λ ys. x ∷ ys) (rows-stay (suc i) n xs)

all-in-range : (i n : ℕ) → 0 < n → (xs : List Row) → list_all (λ t. nat_lt t.0 n) (numbered_from i n xs) ≡ true
all-in-range i n some [] = refl
all-in-range i n some (x ∷ xs) = let here : nat_lt (i % n) n ≡ true = lt-ltb (i % n) n (omega arith) in rw (here, all-in-range (suc i) n some xs) refl

bears-turn : (i n j : ℕ) (xs : List Row) → bearing j (numbered_from i n xs) ≡ in_turn i n j xs
bears-turn i n j [] = refl
bears-turn i n j (x ∷ xs) = ap (λ ys. cond (i % n == j) (x ∷ ys) ys) (bears-turn (suc i) n j xs)

pub turns-are-dealt : TurnsAreDealt
turns-are-dealt n some xs = record {
  numbered = numbered_from 0 n xs;
  whole = rows-stay 0 n xs;
  in_range = all-in-range 0 n some xs;
  lists_are = λ i l. bears-turn 0 n i xs;
}
