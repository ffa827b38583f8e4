-- Columns by labels: those with one label are equal.
use Rattle.std.specs.Prelude.{◌≡◌, ◌<◌, ℕ, ◌==◌, nat_lt, cond, Bool, true, ◌&&◌, List, length, map, Option, Some, None, slice_index, slice_index_or}
use Rattle.vx_plan_nodes.specs.Describe.{Copying, source}
use Rattle.vx_plan_nodes.specs.Phases.{first_columns}
use Rattle.vx_plan_facts.specs.Facts.{Tells}

abbrev pub label_eq : ℕ × ℕ → ℕ × ℕ → Bool
label_eq a b = (a.0 == b.0) && (a.1 == b.1)

abbrev pub label_at : List (ℕ × ℕ) → ℕ → ℕ × ℕ
label_at labels c = slice_index_or labels c (0, 0)

-- columns have one first column just if they have one label
abbrev pub SameLabels : List (ℕ × ℕ) → List ℕ → Type 0
SameLabels labels firsts = Tells (λ a b. label_eq (label_at labels a) (label_at labels b)) firsts

-- the label of a copy is the first column of its class, and that of another column is the column's own
abbrev pub copy_label : List ℕ → ℕ → Option ℕ → ℕ × ℕ
copy_label firsts c None = (1, c)
copy_label firsts c (Some d) = (0, slice_index firsts d)

-- the labels of so many columns that are copied
abbrev pub copy_labels : List ℕ → Copying → ℕ → List (ℕ × ℕ)
copy_labels firsts k w = map (λ c. copy_label firsts c (source k c)) (first_columns w)

-- columns that are equal in both
abbrev pub both_labels : List ℕ → List ℕ → List (ℕ × ℕ)
both_labels firsts others = map (λ c. (slice_index firsts c, slice_index others c)) (first_columns (length firsts))

-- a copy is one of the first w columns, if it is one
abbrev pub source_within : ℕ → Option ℕ → Bool
source_within w None = true
source_within w (Some c) = nat_lt c w

-- one first column stands in the place of another
abbrev pub AreReplaced : (lost kept : ℕ) → List ℕ → List ℕ → Type 0
AreReplaced lost kept firsts others = (c : ℕ) → c < length firsts → slice_index others c ≡ cond (slice_index firsts c == lost) kept (slice_index firsts c)
