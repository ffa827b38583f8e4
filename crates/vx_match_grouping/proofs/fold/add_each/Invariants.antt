use Rattle.std.proofs.Common.{◌≡◌, ◌++◌, ℕ, List, map, take}
use Rattle.vx_rows_values.specs.Values.{Row, pick}
use Rattle.vx_match_keys.specs.Numbers.{numbers_of}
use Rattle.vx_plan_nodes.specs.Serial.{group_keys}
use Rattle.vx_match_grouping.specs.Groups.{column_of}
use Rattle.vx_match_grouping.specs.Takes.{entry_held}
use Rattle.vx_match_grouping.proofs.fold.add_each.Given as goal

-- the first i rows were added
abbrev pub invariant-loop-i : goal.invariant-loop-i
invariant-loop-i g l =
    (by : List ℕ) (xs : List Row) → l.numbers ≡ numbers_of (group_keys by xs) (map (pick by) (g.F.Fold.rows l.fold))
    → map (entry_held (g.F.Fold.aggregate l.fold) g.F.Fold.value g.F.Fold.taken) l.initial.entries.items ≡ column_of by xs (g.F.Fold.aggregate l.fold)
    → map (entry_held (g.F.Fold.aggregate l.fold) g.F.Fold.value g.F.Fold.taken) l.entries.items ≡ column_of by (xs ++ take l.i (g.F.Fold.rows l.fold)) (g.F.Fold.aggregate l.fold)
