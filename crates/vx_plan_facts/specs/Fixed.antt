-- Columns that have one value in every row of a node: by conditions `column = value`, as constants of projections, and as what is equal to such a column. They are derived, never claimed.
use Rattle.std.specs.Prelude.{ℕ, ◌==◌, Bool, cond, List, [], ◌∷◌, ◌++◌, map, filter, flat_map, slice_get, Option, Some, None}
use Rattle.std.specs.List.{list_any}
use Rattle.std.specs.Ordering.{is_eq}
use Rattle.vx_rows_values.specs.Values.{Val, val_cmp}
use Rattle.vx_catalog_relations.specs.Relation.{Relation}
use Rattle.vx_plan_nodes.specs.Plan.{constant, equal, Test, Side, Condition, input, value, call, Entry, copy_of, made_by, Unary, select, project, Binary, union, join, semi_join, Plan, scan, unary, binary, exchange}
use Rattle.vx_plan_nodes.specs.Phases.{first_columns}
use Rattle.vx_plan_nodes.specs.Types.{width}
use Rattle.vx_plan_nodes.specs.Describe.{Copying, entries_kept, kept_column, source, left_of, right_of, described}
use Rattle.vx_plan_facts.specs.Equal.{Equality, comparisons, equal_at}

-- the values that a column has in every row. One that has two stands where no row comes
abbrev pub Values : Type 0
Values = ℕ → List Val

-- those of an input column, if there is one
abbrev pub values_at : Values → Option ℕ → List Val
values_at f None = []
values_at f (Some c) = f c

-- an output has the values of the input column that it is a copy of
abbrev pub carried_values : Copying → Values → Values
carried_values k f c = values_at f (source k c)

-- what a condition says of a column: one that is compared by `=` with a value has it
abbrev pub tested_value : ℕ → Test → Side → ℕ → List Val
tested_value x equal (constant v) c = cond (x == c) (v ∷ []) []
tested_value x test side c = []

abbrev pub tested_values : List Condition → Values
tested_values cs c = flat_map (λ d. tested_value d.left d.test d.right c) cs

-- the value of an entry of a projection that is a value: a function's answers show none
abbrev pub constant_value : Option Entry → List Val
constant_value None = []
constant_value (Some (copy_of c)) = []
constant_value (Some (made_by (input c))) = []
constant_value (Some (made_by (value v))) = v ∷ []
constant_value (Some (made_by (call f t es))) = []

-- those of the columns that these entries make
abbrev pub constants : List Entry → Values
constants es c = constant_value (slice_get es c)

-- a column has the values of each of the first w columns that is equal to it
abbrev pub shared_values : ℕ → Equality → Values → Values
shared_values w e f c = flat_map (λ d. cond (e c d) (f d) []) (first_columns w)

-- the value is in the list
abbrev pub has_value : List Val → Val → Bool
has_value vs v = list_any (λ u. is_eq (val_cmp u v)) vs

-- over an input of w columns, for these equal columns of the output
abbrev pub unary_fixed : ℕ → Equality → Unary → Values → Values
unary_fixed w e (select fs) f = shared_values w e (λ c. tested_values (comparisons fs) c ++ f c)
unary_fixed w e (project es) f = λ c. carried_values (entries_kept (map kept_column es)) f c ++ constants es c
unary_fixed w e op f = carried_values (described op).copying f

-- over a left input of v columns, for an output of w columns, of which these are equal
abbrev pub binary_fixed : (v w : ℕ) → Equality → Binary → Values → Values → Values
binary_fixed v w e union f g = λ c. filter (has_value (g c)) (f c)
binary_fixed v w e (join method on) f g = shared_values w e (λ c. carried_values (left_of v) f c ++ carried_values (right_of v) g c)
binary_fixed v w e (semi_join matched on conditions) f g = f

-- the fixed columns of a node, with their values
abbrev pub fixed_at : (ℕ → Relation) → Plan → Values
fixed_at catalog (scan n c r m z) = λ d. []
fixed_at catalog (unary n c op p) = unary_fixed (width catalog p) (equal_at catalog (unary n c op p)) op (fixed_at catalog p)
fixed_at catalog (binary n c op p q) =
    binary_fixed (width catalog p) (width catalog (binary n c op p q)) (equal_at catalog (binary n c op p q)) op (fixed_at catalog p) (fixed_at catalog q)
fixed_at catalog (exchange n c k m p) = fixed_at catalog p
