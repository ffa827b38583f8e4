-- What a caller sees of the kernel of a semi or an anti join, and what it has read and built.
use Rattle.std.specs.Prelude.{◌≡◌, ℕ, Bool, true, false, not, List, [], ◌++◌, length, refl}
use Rattle.std.proofs.lemmas.List.Elements.{filter-append}
use Rattle.vx_rows_values.specs.declared.value.ColType.{ColType}
use Rattle.vx_rows_values.specs.Values.{Row}
use Rattle.vx_rows.specs.View.{AreColumns}
use Rattle.vx_plan_nodes.specs.Plan.{Condition, Binary}
use Rattle.vx_plan_nodes.specs.Serial.{is_matched, matched_rows}
use Rattle.vx_match_join.specs.Matching.{MatchView, match_op, left_of_pairs, HasMatchRead, HasMatchBuilt}
use Rattle.vx_ops.specs.Turn.{Shape}

-- the types of the left input, and the build side
pub record SemiJoiningView : Type 0 where
  pub left : List ColType
  pub build : MatchView

-- its columns of the left input are there
abbrev pub IsSemiJoining : List ColType → MatchView → Type 0
IsSemiJoining left build = AreColumns (length left) (left_of_pairs build.on)

abbrev pub semi_joining : SemiJoiningView → Binary
semi_joining s = match_op s.build

abbrev pub semi_joining_types : SemiJoiningView → Shape
semi_joining_types s = record { left = s.left; right = s.build.types; out = s.left }

abbrev pub SemiJoiningHasRead : SemiJoiningView → List Row → Type 0
SemiJoiningHasRead s rs = HasMatchRead s.build rs

abbrev pub SemiJoiningHasBuilt : SemiJoiningView → List Row → Type 0
SemiJoiningHasBuilt s rs = HasMatchBuilt s.build rs

-- of a left row it makes one row at most, whatever comes from the right
abbrev pub semi_joining_each : SemiJoiningView → ℕ → ℕ
semi_joining_each s n = 1

-- laws that the trait asks for: what is kept of no rows, and of rows one behind the other
pub matched-empty : (matched : Bool) (on : List (ℕ × ℕ)) (conditions : List Condition) (rs : List Row) → matched_rows matched on conditions [] rs ≡ []
matched-empty true on conditions rs = refl
matched-empty false on conditions rs = refl

pub matched-parts : (matched : Bool) (on : List (ℕ × ℕ)) (conditions : List Condition) (xs ys rs : List Row)
    → matched_rows matched on conditions (xs ++ ys) rs ≡ matched_rows matched on conditions xs rs ++ matched_rows matched on conditions ys rs
matched-parts true on conditions xs ys rs = filter-append (is_matched on conditions rs) xs ys
matched-parts false on conditions xs ys rs = filter-append (λ l. not (is_matched on conditions rs l)) xs ys
