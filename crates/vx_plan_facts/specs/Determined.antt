-- Which columns of a node are determined by some of its columns: two rows of its serial list that agree in these agree in those. It follows from fixed and
-- equal columns and from the keys that the node and those below it claim (Armstrong's closure of functional dependencies).
use Rattle.std.specs.Prelude.{ℕ, zero, suc, ◌==◌, Bool, false, ◌&&◌, ◌||◌, List, [], Option, Some, None}
use Rattle.std.specs.List.{list_all, list_any}
use Rattle.vx_rows_values.specs.Lists.{is_some_list}
use Rattle.vx_catalog_relations.specs.Relation.{Relation}
use Rattle.vx_plan_nodes.specs.Plan.{Binary, union, join, semi_join, Plan, scan, unary, binary, exchange}
use Rattle.vx_plan_nodes.specs.Phases.{first_columns}
use Rattle.vx_plan_nodes.specs.Types.{width}
use Rattle.vx_plan_nodes.specs.Describe.{Copying, whole_rows, source, left_of, right_of, described}
use Rattle.vx_plan_facts.specs.Equal.{Equality, equal_at}
use Rattle.vx_plan_facts.specs.Fixed.{Values, fixed_at}

-- a set of columns
abbrev pub Columns : Type 0
Columns = ℕ → Bool

-- the column of a copy is in the set, if it is a copy
abbrev pub column_in : Columns → Option ℕ → Bool
column_in s None = false
column_in s (Some c) = s c

-- the copy is one of this column
abbrev pub is_copy_of : ℕ → Option ℕ → Bool
is_copy_of x c = column_in (λ d. d == x) c

-- the input columns of which copies are among these of the first w
abbrev pub sources_in : ℕ → Copying → Columns → Columns
sources_in w k s x = list_any (λ c. s c && is_copy_of x (source k c)) (first_columns w)

-- by an input: of the columns that these stand for, those that the input says they determine, where they stand
abbrev pub by_input : ℕ → Copying → (Columns → Columns) → Columns → Columns
by_input w k below s c = column_in (below (sources_in w k s)) (source k c)

-- by these columns themselves: fixed ones, those equal to one of them, and all where they hold a claimed key
abbrev pub by_rows : ℕ → Equality → Values → List (List ℕ) → Columns → Columns
by_rows w e f keys s c =
    s c || (is_some_list (f c) || (list_any (λ d. s d && e d c) (first_columns w) || list_any (list_all s) keys))

abbrev pub repeated : ℕ → (Columns → Columns) → Columns → Columns
repeated zero step s = s
repeated (suc n) step s = repeated n step (step s)

-- all of w columns: as each step that adds none is the last, w steps are enough
abbrev pub closure : ℕ → Equality → Values → List (List ℕ) → (inputs : Columns → Columns) → Columns → Columns
closure w e f keys inputs s = repeated w (λ t c. by_rows w e f keys t c || inputs t c) s

abbrev pub by_none : Columns → Columns
by_none s c = false

-- rows side by side say nothing of one another; a joined row has a row of each input, and a kept left row is one
abbrev pub by_both : (v w : ℕ) → Binary → (left right : Columns → Columns) → Columns → Columns
by_both v w union left right = by_none
by_both v w (join method on) left right = λ s c. by_input w (left_of v) left s c || by_input w (right_of v) right s c
by_both v w (semi_join matched on conditions) left right = by_input w whole_rows left

-- what the columns of a set determine at a node
abbrev pub determined : (ℕ → Relation) → Plan → Columns → Columns
determined catalog (scan n c r m z) =
    closure (width catalog (scan n c r m z)) (equal_at catalog (scan n c r m z)) (fixed_at catalog (scan n c r m z)) c.keys by_none
determined catalog (unary n c op p) =
    closure (width catalog (unary n c op p)) (equal_at catalog (unary n c op p)) (fixed_at catalog (unary n c op p)) c.keys
    (by_input (width catalog (unary n c op p)) (described op).copying (determined catalog p))
determined catalog (binary n c op p q) =
    closure (width catalog (binary n c op p q)) (equal_at catalog (binary n c op p q)) (fixed_at catalog (binary n c op p q)) c.keys
    (by_both (width catalog p) (width catalog (binary n c op p q)) op (determined catalog p) (determined catalog q))
determined catalog (exchange n c k m p) =
    closure (width catalog p) (equal_at catalog p) (fixed_at catalog p) c.keys (by_input (width catalog p) whole_rows (determined catalog p))

-- the columns of a node that its inputs add
abbrev pub by_inputs : (ℕ → Relation) → Plan → Columns → Columns
by_inputs catalog (scan n c r m z) = by_none
by_inputs catalog (unary n c op p) = by_input (width catalog (unary n c op p)) (described op).copying (determined catalog p)
by_inputs catalog (binary n c op p q) = by_both (width catalog p) (width catalog (binary n c op p q)) op (determined catalog p) (determined catalog q)
by_inputs catalog (exchange n c k m p) = by_input (width catalog p) whole_rows (determined catalog p)

-- what columns determine at a node, its own claimed keys left aside
abbrev pub determined_aside : (ℕ → Relation) → Plan → Columns → Columns
determined_aside catalog p = closure (width catalog p) (equal_at catalog p) (fixed_at catalog p) [] (by_inputs catalog p)
