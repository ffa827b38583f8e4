-- The rules do not ask for functions: the law of plans under other functions.
use Rattle.std.specs.Prelude.{◌≡◌, ℕ, Bool}
use Rattle.vx_catalog_relations.specs.Relation.{Relation}
use Rattle.vx_plan_nodes.specs.Plan.{Plan}
use Rattle.vx_plan_nodes.specs.Under.{Functions, under}
use Rattle.vx_check_rules.specs.Tables.{allowed_by, root_allowed_by, refusal_by}

-- whatever functions a plan has, by either table the same plans are allowed at every node, and at the root; and of those that are not, the same node is refused
-- by the same rule
pub record FunctionsAreNotAsked : Type 0 where
  pub allowed : (given : Functions) (derives : Bool) (catalog : ℕ → Relation) (p : Plan) → allowed_by derives catalog (under given p) ≡ allowed_by derives catalog p
  pub root : (given : Functions) (derives : Bool) (catalog : ℕ → Relation) (total : Bool) (p : Plan)
      → root_allowed_by derives catalog total (under given p) ≡ root_allowed_by derives catalog total p
  pub refused : (given : Functions) (derives : Bool) (catalog : ℕ → Relation) (total : Bool) (p : Plan)
      → refusal_by derives catalog total (under given p) ≡ refusal_by derives catalog total p
