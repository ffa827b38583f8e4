-- The right rows of a join, by key: each key with the places of its rows; and the pairs of rows that match.
use Rattle.std.specs.Prelude.{◌≡◌, ℕ, suc, Bool, cond, List, [], ◌∷◌, ◌++◌, length, map, slice_index_or}
use Rattle.std.specs.List.{zip}
use Rattle.vx_rows_values.specs.declared.value.ColType.{ColType}
use Rattle.vx_rows_values.specs.Values.{Row, row_eq, pick}
use Rattle.vx_rows.specs.View.{ArePositions}
use Rattle.vx_match_keys.specs.Numbers.{numbers_of}
use Rattle.vx_plan_nodes.specs.Serial.{group_keys}

-- where the elements stand that pass a test, counted from 0
abbrev pub places : {X : Type 0} → (X → Bool) → List X → List ℕ
places p [] = []
places p (x ∷ xs) = cond (p x) (0 ∷ map suc (places p xs)) (map suc (places p xs))

-- where the rows stand that have this key
abbrev pub places_of : List ℕ → Row → List Row → List ℕ
places_of by key rows = places (λ r. row_eq key (pick by r)) rows

-- the places of each key's rows
abbrev pub parts_of : List ℕ → List Row → List (List ℕ)
parts_of by rows = map (λ k. places_of by k rows) (group_keys by rows)

-- the places of each key's rows, that were the first, are the second when rows came too, from this place on, whose keys have these numbers
abbrev pub AddsRows : ℕ → List ℕ → List (List ℕ) → List (List ℕ) → Type 0
AddsRows first numbers old new =
    (by : List ℕ) (xs rows : List Row) → length xs ≡ first → numbers ≡ numbers_of (group_keys by xs) (map (pick by) rows) → old ≡ parts_of by xs → new ≡ parts_of by (xs ++ rows)

-- what the build side of a join shows: its rows with their types, and its columns of the join
pub record Built : Type 0 where
  pub types : List ColType
  pub rows : List Row
  pub columns : List ℕ

-- the keys of rows in order of first occurrence, and the places of each key's rows
pub record IsIndex (by : List ℕ) (rows keys : List Row) (parts : List (List ℕ)) : Type 0 where
  pub keys_are : keys ≡ group_keys by rows
  pub parts_are : parts ≡ parts_of by rows

-- places of left rows, and beside each that of a right row: side by side they make these rows
pub record ArePairs (ls rs : List Row) (lefts rights : List ℕ) (made : List Row) : Type 0 where
  pub many : length lefts ≡ length rights
  pub lefts_are : ArePositions (length ls) lefts
  pub rights_are : ArePositions (length rs) rights
  pub rows_are : map (λ (p : ℕ × ℕ). slice_index_or ls p.0 [] ++ slice_index_or rs p.1 []) (zip lefts rights) ≡ made
