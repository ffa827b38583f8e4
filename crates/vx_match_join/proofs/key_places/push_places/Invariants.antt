use Rattle.std.proofs.Common.{◌≡◌, ◌++◌, ℕ, List, map, take, length}
use Rattle.vx_rows_values.specs.Values.{Row, pick}
use Rattle.vx_plan_nodes.specs.Serial.{group_keys}
use Rattle.vx_match_keys.specs.Numbers.{numbers_of}
use Rattle.vx_match_join.specs.Build.{parts_of}
use Rattle.vx_match_join.proofs.key_places.push_places.Given as goal

-- the first i rows were added
abbrev pub invariant-loop-i : goal.invariant-loop-i
invariant-loop-i l =
    (by : List ℕ) (xs rows : List Row) → length xs ≡ l.first → l.numbers ≡ numbers_of (group_keys by xs) (map (pick by) rows) → map (λ p. p.items) l.initial.parts.items ≡ parts_of by xs
    → map (λ p. p.items) l.parts.items ≡ parts_of by (xs ++ take l.i rows)
