-- Lists of columns with their values, as they are made.
use Rattle.std.specs.Prelude.{ℕ, zero, suc, ◌-◌, ◌==◌, nat_lt, cond, List, [], ◌∷◌, ◌++◌, map, filter, flat_map, slice_index}
use Rattle.vx_rows_values.specs.Values.{Val}
use Rattle.vx_plan_nodes.specs.Plan.{Test, equal, Side, constant, Filter, comparing, computing}
use Rattle.vx_plan_nodes.specs.Describe.{Copying, source}
use Rattle.vx_plan_nodes.specs.Phases.{first_columns}
use Rattle.vx_plan_facts.specs.Fixed.{Values, values_at, has_value}
use Rattle.vx_plan_facts.specs.Facts.{Facts, values_in, values_of}

-- each of the values beside this column
abbrev pub beside : ℕ → List Val → List (ℕ × Val)
beside c vs = map (λ v. (c, v)) vs

-- the values of the first w columns, each beside its column
abbrev pub listed : ℕ → Values → List (ℕ × Val)
listed w f = flat_map (λ c. beside c (f c)) (first_columns w)

-- the list with one more value beside a column, if it is not there
abbrev pub with_fixed : List (ℕ × Val) → ℕ → Val → List (ℕ × Val)
with_fixed fixed c v = cond (has_value (values_in fixed c) v) fixed (fixed ++ (c, v) ∷ [])

abbrev pub with_all : List (ℕ × Val) → ℕ → List Val → List (ℕ × Val)
with_all fixed c [] = fixed
with_all fixed c (v ∷ vs) = with_all (with_fixed fixed c v) c vs

-- the values that conditions name, beside their columns
abbrev pub named_value : ℕ → Test → Side → List (ℕ × Val)
named_value x equal (constant v) = (x, v) ∷ []
named_value x test side = []

abbrev pub named_by : Filter → List (ℕ × Val)
named_by (comparing c) = named_value c.left c.test c.right
named_by (computing e) = []

abbrev pub named_values : List Filter → List (ℕ × Val)
named_values fs = flat_map named_by fs

-- all values of the class of each column, beside its first one
abbrev pub shared : List ℕ → List (ℕ × Val) → ℕ → List (ℕ × Val)
shared firsts given zero = []
shared firsts given (suc n) = with_all (shared firsts given n) (slice_index firsts n) (values_in given n)

-- those of columns that are the first ones of their classes
abbrev pub of_firsts : List ℕ → Values → Values
of_firsts firsts f c = cond (slice_index firsts c == c) (f c) []

-- those of copies
abbrev pub copied : Facts → Copying → Values
copied k copying c = values_at (values_of k) (source copying c)

-- those that both have
abbrev pub common : Facts → Facts → Values
common k l c = filter (has_value (values_of l c)) (values_of k c)

-- those of a left input with so many columns, and behind them those of a right one
abbrev pub side_by_side : ℕ → Facts → Facts → Values
side_by_side w k l c = cond (nat_lt c w) (values_of k c) (values_of l (c - w))
