-- What a caller sees of the kernel of a hash join, and what it has read and built.
use Rattle.std.specs.Prelude.{◌≡◌, ℕ, ◌+◌, ◌≤◌, List, ◌++◌, length, map}
use Rattle.std.proofs.Common.{le_refl, add-le-add}
use Rattle.vx_rows_values.specs.declared.value.ColType.{ColType}
use Rattle.vx_rows_values.specs.Values.{Row}
use Rattle.vx_rows.specs.View.{AreColumns}
use Rattle.vx_plan_nodes.specs.Plan.{Binary, join, by_hashing}
use Rattle.vx_match_join.specs.Build.{Built}
use Rattle.vx_ops.specs.Turn.{Shape}

-- the pairs of columns, the types of both inputs, the right rows that it has read, and those of its build side
pub record HashJoiningView : Type 0 where
  pub on : List (ℕ × ℕ)
  pub left : List ColType
  pub right : List ColType
  pub read : List Row
  pub built : List Row

-- its columns are those of the pairs, and columns of its inputs
pub record IsHashJoining (on : List (ℕ × ℕ)) (left_columns : List ℕ) (left right : List ColType) (build : Built) : Type 0 where
  pub lefts : left_columns ≡ map (λ p. p.0) on
  pub rights : build.columns ≡ map (λ p. p.1) on
  pub types : build.types ≡ right
  pub of_left : AreColumns (length left) (map (λ p. p.0) on)
  pub of_right : AreColumns (length right) (map (λ p. p.1) on)

abbrev pub hash_joining : HashJoiningView → Binary
hash_joining s = join by_hashing s.on

abbrev pub hash_joining_types : HashJoiningView → Shape
hash_joining_types s = record { left = s.left; right = s.right; out = s.left ++ s.right }

abbrev pub HashJoiningHasRead : HashJoiningView → List Row → Type 0
HashJoiningHasRead s rs = s.read ≡ rs

-- of a left row it makes one row at most with each right row: that it has, read or built, or that may still come
abbrev pub hash_joining_each : HashJoiningView → ℕ → ℕ
hash_joining_each s n = length s.read + length s.built + n

-- a law that the trait asks for
pub hash-joining-grows : (s : HashJoiningView) (m n : ℕ) → m ≤ n → hash_joining_each s m ≤ hash_joining_each s n
hash-joining-grows s m n h = add-le-add (le_refl (length s.read + length s.built)) h

abbrev pub HashJoiningHasBuilt : HashJoiningView → List Row → Type 0
HashJoiningHasBuilt s rs = s.built ≡ rs
