-- The build side of a semi or an anti join, and the left rows that it keeps.
use Rattle.std.specs.Prelude.{◌≡◌, ℕ, Bool, List, [], ◌∷◌, length, map}
use Rattle.std.specs.Bool.{beq}
use Rattle.std.specs.List.{list_any}
use Rattle.vx_rows_values.specs.declared.value.ColType.{ColType}
use Rattle.vx_rows_values.specs.Values.{Row, row_eq, pick}
use Rattle.vx_rows.specs.View.{AreColumns}
use Rattle.vx_plan_nodes.specs.Plan.{Condition, Binary, semi_join}
use Rattle.vx_plan_nodes.specs.Serial.{group_keys, is_matched}
use Rattle.vx_plan_nodes.specs.Conditions.{conditions_of}
use Rattle.vx_match_join.specs.Build.{parts_of}
use Rattle.vx_match_join.specs.declared.match_build.Matching.{Matching}

-- the pairs of columns and the conditions; the types of the right rows, those that were read where there are conditions, the keys, and the right rows that a left
-- row is compared with
pub record MatchView : Type 0 where
  pub matched : Bool
  pub on : List (ℕ × ℕ)
  pub conditions : List Condition
  pub types : List ColType
  pub read : List Row
  pub keys : List Row
  pub rows : List Row

abbrev pub match_op : MatchView → Binary
match_op b = semi_join b.matched b.on b.conditions

abbrev pub op_of_matching : Matching → Binary
op_of_matching m = semi_join m.matched m.on.items (conditions_of m.conditions.items)

abbrev pub left_of_pairs : List (ℕ × ℕ) → List ℕ
left_of_pairs on = map (λ p. p.0) on

abbrev pub right_of_pairs : List (ℕ × ℕ) → List ℕ
right_of_pairs on = map (λ p. p.1) on

-- where there are conditions, the keys are those of the rows
abbrev pub AreKeys : List Condition → List ℕ → (keys rows : List Row) → Type 0
AreKeys [] by keys rows = Unit {0}
AreKeys (c ∷ cs) by keys rows = keys ≡ group_keys by rows

-- its columns are those of the pairs, the right ones are columns of right rows, and it has the places of each key's rows
pub record IsMatching (on : List (ℕ × ℕ)) (lefts rights : List ℕ) (conditions : List Condition) (types : List ColType) (keys : List Row) (parts : List (List ℕ)) (rows : List Row) : Type 0 where
  pub lefts_are : lefts ≡ left_of_pairs on
  pub rights_are : rights ≡ right_of_pairs on
  pub of_right : AreColumns (length types) (right_of_pairs on)
  pub keys_are : AreKeys conditions (right_of_pairs on) keys rows
  pub parts_are : parts ≡ parts_of (right_of_pairs on) rows

-- these right rows were read, and no others: of them the keys are kept, or, where there are conditions, all of them
abbrev pub ReadSo : List Condition → List ℕ → (read keys rs : List Row) → Type 0
ReadSo [] by read keys rs = keys ≡ group_keys by rs
ReadSo (c ∷ cs) by read keys rs = read ≡ rs

abbrev pub HasMatchRead : MatchView → List Row → Type 0
HasMatchRead b rs = ReadSo b.conditions (right_of_pairs b.on) b.read b.keys rs

-- the build side is ready, and is these rows
abbrev pub HasMatchBuilt : MatchView → List Row → Type 0
HasMatchBuilt b rs = ReadSo b.conditions (right_of_pairs b.on) b.rows b.keys rs

-- a left row is matched: by a key, or, where there are conditions, by a row
abbrev pub meets : List Condition → List (ℕ × ℕ) → (keys rows : List Row) → Row → Bool
meets [] on keys rows l = list_any (row_eq (pick (left_of_pairs on) l)) keys
meets (c ∷ cs) on keys rows l = is_matched on (c ∷ cs) rows l

-- it is kept: a semi join keeps what is matched, an anti join what is not
abbrev pub keeps : MatchView → Row → Bool
keeps b l = beq (meets b.conditions b.on b.keys b.rows l) b.matched
