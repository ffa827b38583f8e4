-- The leaves of fragments, by their numbers.
use Rattle.std.specs.Prelude.{ℕ, ◌≡◌, ◌==◌, nat_lt, cond, List}
use Rattle.vx_rows_values.specs.declared.value.ColType.{ColType}
use Rattle.vx_catalog_relations.specs.Relation.{Relation}
use Rattle.vx_plan_nodes.specs.Plan.{Plan, scan, unary, binary, exchange, number}
use Rattle.vx_plan_nodes.specs.Types.{types_of}

-- the types of the rows that the leaf with this number reads: those of a scan's relation, or of an exchange's input
abbrev pub leaf_types : (ℕ → Relation) → Plan → ℕ → List ColType
leaf_types catalog (scan n c r m z) k = (catalog r).types
leaf_types catalog (unary n c op p) k = leaf_types catalog p k
leaf_types catalog (binary n c op p q) k = cond (nat_lt k (number q)) (leaf_types catalog p k) (leaf_types catalog q k)
leaf_types catalog (exchange n c x m p) k = cond (k == n) (types_of catalog p) (leaf_types catalog p k)

-- the leaves of a plan's fragments read rows of these types
abbrev pub LeavesFit : (ℕ → List ColType) → (ℕ → Relation) → Plan → Type 0
LeavesFit types catalog (scan n c r m z) = (catalog r).types ≡ types n
LeavesFit types catalog (unary n c op p) = LeavesFit types catalog p
LeavesFit types catalog (binary n c op p q) = LeavesFit types catalog p × LeavesFit types catalog q
LeavesFit types catalog (exchange n c x m p) = (types_of catalog p ≡ types n) × LeavesFit types catalog p
