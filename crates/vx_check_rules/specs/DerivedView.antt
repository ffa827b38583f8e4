-- What is known of the columns of nodes, as the program asks it; and the second table's tests of parts, by what is known of a node and of its inputs.
use Rattle.std.specs.Prelude.{ℕ, ◌==◌, nat_lt, Bool, false, ◌&&◌, ◌||◌, List, Option, Some, None, slice_index}
use Rattle.vx_catalog_relations.specs.Relation.{Relation}
use Rattle.vx_plan_nodes.specs.Plan.{Part, all, Plan, scan, unary, binary, exchange, claim}
use Rattle.vx_plan_nodes.specs.Describe.{Copying, Meeting, side_by_side, paired_on, matched_on, DescribedBoth}
use Rattle.vx_plan_facts.specs.declared.facts.ColumnFacts as rust_facts
use Rattle.vx_plan_facts.specs.FactsView.{facts_of, width_of}
use Rattle.vx_plan_facts.specs.Equal.{Equality, equal_at}
use Rattle.vx_check_rules.specs.Behaviour.{input_has}
use Rattle.vx_check_rules.specs.Derived.{part_matches, routed_within_equally, routed_alike_equally, unary_meets_equally, binary_meets_equally, routed_as, is_any}

-- both columns are there and equal: they have one first column
abbrev pub equality_of : rust_facts.ColumnFacts → Equality
equality_of k a b = nat_lt a (width_of k) && (nat_lt b (width_of k) && (slice_index (facts_of k).firsts a == slice_index (facts_of k).firsts b))

-- ---- K4

-- rows that have to meet in these columns, if in any, are routed on columns that are equal to some of them
abbrev pub meet_equally : Equality → Option (List ℕ) → Part → Bool
meet_equally e None q = false
meet_equally e (Some cols) q = routed_within_equally e q cols

-- rows of two inputs that have to meet, if they have, do by equal columns
abbrev pub meet_both_equally : (left right : Equality) → Meeting → Part → Part → Bool
meet_both_equally e f side_by_side p q = false
meet_both_equally e f (paired_on on) p q = routed_alike_equally e f on p q
meet_both_equally e f (matched_on on) p q = routed_alike_equally e f on p q

-- what the second table has beside the first one
abbrev pub meets_derived : (ℕ → Relation) → Plan → Bool
meets_derived catalog (scan n c r m z) = false
meets_derived catalog (unary n c op p) = unary_meets_equally (equal_at catalog p) op (claim p).part
meets_derived catalog (binary n c op p q) = binary_meets_equally (equal_at catalog p) (equal_at catalog q) op (claim p).part (claim q).part
meets_derived catalog (exchange n c k m p) = false

-- ---- K3

-- the parts of a join whose inputs have these, by how it copies their columns, and by equal columns of the inputs and of its output
abbrev pub join_part : ℕ → (first second : Copying) → (left right output : Equality) → List (ℕ × ℕ) → (lefts rights : Bool × Part) → Part → Bool
join_part w k l e f g on h i x =
    (is_any x && routed_alike_equally e f on h.1 i.1)
    || (((input_has i all || routed_alike_equally e f on h.1 i.1) && routed_as w k e g h.1 x)
    || ((input_has h all || routed_alike_equally e f on h.1 i.1) && routed_as w l f g i.1 x))

-- the same of left rows that are kept as they meet right ones
abbrev pub kept_part : ℕ → Copying → (left right output : Equality) → List (ℕ × ℕ) → (lefts rights : Bool × Part) → Part → Bool
kept_part w k e f g on h i x =
    (is_any x && routed_alike_equally e f on h.1 i.1) || ((input_has i all || routed_alike_equally e f on h.1 i.1) && routed_as w k e g h.1 x)

-- the parts of an operator over two inputs
abbrev pub both_part : ℕ → Meeting → DescribedBoth → (left right output : Equality) → (lefts rights : Bool × Part) → Part → Bool
both_part w side_by_side d e f g h i x = part_matches e h.1 x && part_matches f i.1 x
both_part w (paired_on on) d e f g h i x = join_part w d.left d.right e f g on h i x
both_part w (matched_on on) d e f g h i x = kept_part w d.left e f g on h i x
