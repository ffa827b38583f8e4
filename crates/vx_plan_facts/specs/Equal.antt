-- Columns that are equal in every row of a node: by conditions, by the pairs of joins, and as copies of equal columns. They are derived, never claimed.
use Rattle.std.specs.Prelude.{ℕ, ◌+◌, ◌==◌, Bool, false, ◌&&◌, ◌||◌, List, [], ◌∷◌, Option, Some}
use Rattle.vx_catalog_relations.specs.Relation.{Relation}
use Rattle.vx_plan_nodes.specs.Plan.{column, equal, Test, Side, Condition, Filter, comparing, computing, Unary, select, Binary, union, join, semi_join, Plan, scan, unary, binary, exchange}
use Rattle.vx_plan_nodes.specs.Types.{width}
use Rattle.vx_plan_nodes.specs.Describe.{Copying, source, left_of, right_of, described}

-- which columns are equal to which
abbrev pub Equality : Type 0
Equality = ℕ → ℕ → Bool

-- each column to itself
abbrev pub each_itself : Equality
each_itself a b = a == b

-- both columns are there, and equal
abbrev pub both_equal : Equality → Option ℕ → Option ℕ → Bool
both_equal e (Some a) (Some b) = e a b
both_equal e _ _ = false

-- two outputs are equal that are one column, or copies of equal input columns
abbrev pub lifted : Copying → Equality → Equality
lifted k e a b = (a == b) || both_equal e (source k a) (source k b)

-- the least equality with this pair beside those of another
abbrev pub with_pair : ℕ → ℕ → Equality → Equality
with_pair x y e a b = e a b || ((e a x && e y b) || (e a y && e x b))

-- what a condition says: a column that is compared by `=` with a column is equal to it
abbrev pub with_test : ℕ → Test → Side → Equality → Equality
with_test x equal (column y) e = with_pair x y e
with_test x test side e = e

abbrev pub with_conditions : List Condition → Equality → Equality
with_conditions [] e = e
with_conditions (c ∷ cs) e = with_test c.left c.test c.right (with_conditions cs e)

-- the columns of each pair of a join, whose right columns stand behind w left ones
abbrev pub with_pairs : ℕ → List (ℕ × ℕ) → Equality → Equality
with_pairs w [] e = e
with_pairs w (p ∷ on) e = with_pair p.0 (w + p.1) (with_pairs w on e)

-- the comparisons among the conditions of a select: what a function says shows nothing of columns
abbrev pub comparisons : List Filter → List Condition
comparisons [] = []
comparisons (comparing c ∷ fs) = c ∷ comparisons fs
comparisons (computing e ∷ fs) = comparisons fs

abbrev pub unary_equal : Unary → Equality → Equality
unary_equal (select fs) e = with_conditions (comparisons fs) e
unary_equal op e = lifted (described op).copying e

-- of two inputs, the left one w columns wide: rows side by side have what both have, joined rows what each has and the pairs, and kept left rows what the left
-- one has
abbrev pub binary_equal : ℕ → Binary → Equality → Equality → Equality
binary_equal w union e f = λ a b. e a b && f a b
binary_equal w (join method on) e f = with_pairs w on (λ a b. lifted (left_of w) e a b || lifted (right_of w) f a b)
binary_equal w (semi_join matched on conditions) e f = e

-- the equal columns of a node
abbrev pub equal_at : (ℕ → Relation) → Plan → Equality
equal_at catalog (scan n c r m z) = each_itself
equal_at catalog (unary n c op p) = unary_equal op (equal_at catalog p)
equal_at catalog (binary n c op p q) = binary_equal (width catalog p) op (equal_at catalog p) (equal_at catalog q)
equal_at catalog (exchange n c k m p) = equal_at catalog p
