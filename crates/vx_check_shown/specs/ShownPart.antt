-- The part that a node shows of those that its inputs have, which tells the most: routed rows stay so on columns that are equal to those that they are
-- routed on.
use Rattle.std.specs.Prelude.{ℕ, nat_lt, Bool, true, false, cond, not, ◌&&◌, List, [], ◌∷◌, ◌++◌, filter, Option, Some, None, option_and_then}
use Rattle.vx_catalog_relations.specs.Relation.{Relation}
use Rattle.vx_catalog_relations.specs.Catalog.{all_below}
use Rattle.vx_plan_nodes.specs.Plan.{Part, one, any, all, routed, Plan, scan, unary, binary, exchange, size, is_one}
use Rattle.vx_plan_nodes.specs.Parts.{kind_part}
use Rattle.vx_plan_nodes.specs.Phases.{first_columns}
use Rattle.vx_plan_nodes.specs.Types.{width, part_columns}
use Rattle.vx_plan_nodes.specs.Describe.{Copying, place, described, Meeting, side_by_side, paired_on, matched_on, DescribedBoth, described_both}
use Rattle.vx_plan_facts.specs.Equal.{Equality, equal_at}
use Rattle.vx_check_rules.specs.Refusal.{or_else}
use Rattle.vx_check_rules.specs.Rules.{route_eq, contains, cons_both}
use Rattle.vx_check_rules.specs.Behaviour.{routed_at}
use Rattle.vx_check_rules.specs.Derived.{first_of, copy_of}

-- ---- of one input

-- the column, if it is one of the first w
abbrev pub if_within : ℕ → Option ℕ → Option ℕ
if_within w None = None
if_within w (Some c) = cond (nat_lt c w) (Some c) None

-- where a column of an input stands in an output of w columns: at its own place, or else at the first copy of an equal one
abbrev pub stand_in : ℕ → Copying → Equality → ℕ → Option ℕ
stand_in w k e x = or_else (if_within w (place k x)) (copy_of w k e x)

-- where these columns stand, if each does
abbrev pub stand_ins : ℕ → Copying → Equality → List ℕ → Option (List ℕ)
stand_ins w k e [] = Some []
stand_ins w k e (x ∷ xs) = cons_both (stand_in w k e x) (stand_ins w k e xs)

-- a part of an input, on the columns that stand for its own; any part where one of them does not
abbrev pub part_carried : ℕ → Copying → Equality → Part → Part
part_carried w k e one = one
part_carried w k e any = any
part_carried w k e all = all
part_carried w k e (routed r cols) = routed_at r (stand_ins w k e cols)

-- ---- of two inputs

-- of the first w columns, where rows stand side by side, the first one that is equal to this left column and to this right one
abbrev pub common_column : ℕ → (left right : Equality) → ℕ → ℕ → Option ℕ
common_column w e f a b = first_of (filter (λ c. e a c && f b c) (first_columns w))

-- of two lists such a column for each place, if they are equally long and there is one for each
abbrev pub common_columns : ℕ → (left right : Equality) → List ℕ → List ℕ → Option (List ℕ)
common_columns w e f [] [] = Some []
common_columns w e f [] (b ∷ bs) = None
common_columns w e f (a ∷ as') [] = None
common_columns w e f (a ∷ as') (b ∷ bs) = cons_both (common_column w e f a b) (common_columns w e f as' bs)

-- all rows
abbrev pub is_all : Part → Bool
is_all one = false
is_all any = false
is_all all = true
is_all (routed r cols) = false

-- of rows side by side: all where both inputs have all; routed on common columns where both are routed by one route; else any part
abbrev pub routed_in_common : ℕ → (left right : Equality) → Part → Part → Part
routed_in_common w e f (routed r as') (routed s bs) = cond (route_eq r s) (routed_at r (common_columns w e f as' bs)) any
routed_in_common w e f x y = any

abbrev pub part_of_union : ℕ → (left right : Equality) → Part → Part → Part
part_of_union w e f x y = cond (is_all x && is_all y) all (routed_in_common w e f x y)

-- of joined rows: the right input's part where the left one alone has all rows, else the left input's; where no input has all, both are routed alike
abbrev pub part_of_join : ℕ → (first second : Copying) → (left right : Equality) → Part → Part → Part
part_of_join w k l e f x y = cond (is_all x && not (is_all y)) (part_carried w l f y) (part_carried w k e x)

-- of an operator over two inputs; of left rows that are kept where they are matched, the left input's part
abbrev pub part_of_both : ℕ → Meeting → DescribedBoth → (left right : Equality) → Part → Part → Part
part_of_both w side_by_side d e f x y = part_of_union w e f x y
part_of_both w (paired_on on) d e f x y = part_of_join w d.left d.right e f x y
part_of_both w (matched_on on) d e f x y = part_carried w d.left e x

-- ---- no column twice

-- this column, if it is not among those taken, or else of the first w the first one that is equal to it and is not
abbrev pub free_equal : ℕ → Equality → (taken : List ℕ) → ℕ → Option ℕ
free_equal w e taken c = cond (contains taken c) (first_of (filter (λ d. e c d && not (contains taken d)) (first_columns w))) (Some c)

-- such columns in place of these behind those taken, if each has one
abbrev pub apart : ℕ → Equality → (taken : List ℕ) → List ℕ → Option (List ℕ)
apart w e taken [] = Some taken
apart w e taken (c ∷ cols) = option_and_then (λ d. apart w e (taken ++ d ∷ []) cols) (free_equal w e taken c)

-- the part on equal columns, none of them twice; any part where there are not so many
abbrev pub part_apart : ℕ → Equality → Part → Part
part_apart w e one = one
part_apart w e any = any
part_apart w e all = all
part_apart w e (routed r cols) = routed_at r (apart w e [] cols)

-- ---- of a node

-- where the node has several workers, of its inputs' parts; columns may be named twice
abbrev pub part_over : (ℕ → Relation) → Plan → (left right : Part) → Part
part_over catalog (scan n c r shared z) x y = cond shared any all
part_over catalog (unary n c op p) x y = part_carried (width catalog (unary n c op p)) (described op).copying (equal_at catalog p) x
part_over catalog (binary n c op p q) x y =
    part_of_both (width catalog (binary n c op p q)) (described_both (width catalog p) op).meeting (described_both (width catalog p) op) (equal_at catalog p) (equal_at catalog q) x y
part_over catalog (exchange n c k m p) x y = kind_part k

-- the part that a node shows where its inputs have these; a node with fewer inputs looks at the first one alone, or at none
abbrev pub shown_part : (ℕ → Relation) → Plan → (left right : Part) → Part
shown_part catalog p x y = cond (is_one (size p)) one (part_apart (width catalog p) (equal_at catalog p) (part_over catalog p x y))

-- these parts name columns of the inputs at which the node looks
abbrev pub are_named : (ℕ → Relation) → Plan → (left right : Part) → Bool
are_named catalog (scan n c r m z) x y = true
are_named catalog (unary n c op p) x y = all_below (width catalog p) (part_columns x)
are_named catalog (binary n c op p q) x y = all_below (width catalog p) (part_columns x) && all_below (width catalog q) (part_columns y)
are_named catalog (exchange n c k m p) x y = true
