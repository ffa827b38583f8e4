-- What is known of columns whatever the plan's functions are: the law of plans under other functions.
use Rattle.std.specs.Prelude.{◌≡◌, ℕ}
use Rattle.vx_catalog_relations.specs.Relation.{Relation}
use Rattle.vx_plan_nodes.specs.Plan.{Unary, Plan}
use Rattle.vx_plan_nodes.specs.Under.{Functions, unary_under, under}
use Rattle.vx_plan_facts.specs.Equal.{equal_at}
use Rattle.vx_plan_facts.specs.Fixed.{fixed_at}
use Rattle.vx_plan_facts.specs.Determined.{determined, determined_aside}
use Rattle.vx_plan_facts.specs.Naming.{names_within}
use Rattle.vx_plan_facts.specs.RowFacts.{all_inputs_fit}
use Rattle.vx_plan_facts.specs.Asking.{is_within}

-- the same columns are equal and fixed, the same are determined; operators name the same columns, and inputs that fitted fit
pub record FactsStay : Type 0 where
  pub equal : (given : Functions) (catalog : ℕ → Relation) (p : Plan) → equal_at catalog (under given p) ≡ equal_at catalog p
  pub fixed : (given : Functions) (catalog : ℕ → Relation) (p : Plan) → fixed_at catalog (under given p) ≡ fixed_at catalog p
  pub follows : (given : Functions) (catalog : ℕ → Relation) (p : Plan) → determined catalog (under given p) ≡ determined catalog p
  pub follows_aside : (given : Functions) (catalog : ℕ → Relation) (p : Plan) → determined_aside catalog (under given p) ≡ determined_aside catalog p
  pub names : (given : Functions) (w : ℕ) (op : Unary) → names_within w (unary_under given op) ≡ names_within w op
  pub within : (given : Functions) (catalog : ℕ → Relation) (p : Plan) → is_within catalog (under given p) ≡ is_within catalog p
  pub inputs : (given : Functions) (catalog : ℕ → Relation) (p : Plan) → all_inputs_fit catalog (under given p) ≡ all_inputs_fit catalog p
