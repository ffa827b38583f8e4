-- A rule table, as the program holds it.
use Rattle.std.specs.Prelude.{◌≡◌, Bool, true, false, ⊤, List}
use Rattle.vx_catalog_relations.specs.Relation.{Relation}
use Rattle.vx_plan_nodes.specs.Plan.{Plan}
use Rattle.vx_check_rules.specs.declared.table.Table as rust_table
use Rattle.vx_check_rules.specs.declared.table.Table.TheVariants as table
use Rattle.vx_check_rules.specs.KnownNode.{IsKnownTyped}

-- it asks what is known of columns
abbrev pub derives : rust_table.Table → Bool
derives table.First = false
derives (table.Second k) = true

-- the plan can be judged by it
abbrev pub Judges : List Relation → rust_table.Table → Plan → Type 0
Judges catalog table.First p = ⊤
Judges catalog (table.Second k) p = IsKnownTyped catalog k p

-- after it has judged a plan it is the same table, and judges what it judged before
pub record StaysTable (old new : rust_table.Table) (p : Plan) : Type 0 where
  pub same : derives new ≡ derives old
  pub judges : (catalog : List Relation) → Judges catalog old p → (q : Plan) → Judges catalog old q → Judges catalog new q
