-- What evaluation makes of a plan: the serial meaning, where a grouping of more than 2^62 rows overflows too.
use Rattle.std.specs.Prelude.{ℕ, ◌≡◌, ◌<◌, nat_lt, Bool, true, false, List, length, Option, Some, None, if◌then◌else◌}
use Rattle.vx_rows_values.specs.Values.{Row}
use Rattle.vx_catalog_relations.specs.Relation.{Relation}
use Rattle.vx_catalog_relations.specs.Catalog.{relation_at}
use Rattle.vx_plan_nodes.specs.Known.{unary_known}
use Rattle.vx_plan_nodes.specs.Plan.{Unary, group, Plan, scan, unary, binary, exchange}
use Rattle.vx_plan_nodes.specs.Serial.{unary_rows, binary_rows, SerialResult, rows, or_overflow, after}
use Rattle.vx_plan_nodes.specs.Typed.{is_unary, is_binary}
use Rattle.vx_plan_nodes.specs.Types.{types_of}

-- the first of two, if there is one, or else the second
abbrev pub first_of : Option ℕ → Option ℕ → Option ℕ
first_of (Some n) other = Some n
first_of None other = other

-- the number of the first exchange in preorder
abbrev pub first_exchange : Plan → Option ℕ
first_exchange (scan n c r m z) = None
first_exchange (unary n c op p) = first_exchange p
first_exchange (binary n c op p q) = first_of (first_exchange p) (first_exchange q)
first_exchange (exchange n c k m p) = Some n

-- one grouping of more than 2^62 rows
abbrev pub is_too_long : Unary → List Row → Bool
is_too_long (group phase by aggregates) xs = nat_lt 4611686018427387904 (length xs)
is_too_long _ xs = false

-- the list that an operator makes of its input's list, or none on overflow and of a list that is too long
abbrev pub evaluated_rows : Unary → List Row → Option (List Row)
evaluated_rows op xs = if is_too_long op xs then None else unary_rows op xs

-- the rows of a plan, or the first node that overflows: the left input's first, then the right's, then the node's own
abbrev pub evaluated : (ℕ → List Row) → Plan → SerialResult
evaluated db (scan n c r m z) = rows (db r)
evaluated db (unary n c op p) = after (evaluated db p) (λ xs. or_overflow n (evaluated_rows op xs))
evaluated db (binary n c op p q) = after (evaluated db p) (λ xs. after (evaluated db q) (λ ys. rows (binary_rows op xs ys)))
evaluated db (exchange n c k m p) = evaluated db p

-- what evaluation needs of a typed plan: relations there are, and operators that fit the types of their inputs, with functions that are known
abbrev pub IsFit : List Relation → Plan → Type 0
IsFit catalog (scan n c r m z) = r < length catalog
IsFit catalog (unary n c op p) =
    IsFit catalog p × (is_unary (types_of (relation_at catalog) p) op ≡ true) × (unary_known (types_of (relation_at catalog) p) op ≡ true)
IsFit catalog (binary n c op p q) =
    IsFit catalog p × IsFit catalog q × (is_binary (types_of (relation_at catalog) p) (types_of (relation_at catalog) q) op ≡ true)
IsFit catalog (exchange n c k m p) = IsFit catalog p
