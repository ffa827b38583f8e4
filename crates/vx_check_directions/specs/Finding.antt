-- What the program asks for where it finds directions.
use Rattle.std.specs.Prelude.{◌≡◌, ℕ, true, List}
use Rattle.vx_catalog_relations.specs.Relation.{Relation}
use Rattle.vx_catalog_relations.specs.Catalog.{relation_at, all_below}
use Rattle.vx_plan_nodes.specs.Plan.{Binary, Plan}
use Rattle.vx_plan_nodes.specs.Types.{width}
use Rattle.vx_plan_facts.specs.Naming.{both_within}
use Rattle.vx_check_rules.specs.declared.table.Table.{Table}
use Rattle.vx_check_rules.specs.TableView.{derives, Judges}

-- the node is judged by the table, and by the second one also has these columns
pub record AreAsked (catalog : List Relation) (t : Table) (p : Plan) (cols : List ℕ) : Type 0 where
  pub judged : Judges catalog t p
  pub below : derives t ≡ true → all_below (width (relation_at catalog) p) cols ≡ true

-- both inputs are judged by the table, and by the second one also the columns that the operator names
pub record AreMerged (catalog : List Relation) (t : Table) (op : Binary) (p q : Plan) : Type 0 where
  pub left : Judges catalog t p
  pub right : Judges catalog t q
  pub named : derives t ≡ true → both_within (width (relation_at catalog) p) (width (relation_at catalog) q) op ≡ true

-- after that it is the same table, and judges what it judged before
pub record StaysBoth (old new : Table) (p q : Plan) : Type 0 where
  pub same : derives new ≡ derives old
  pub judges : (catalog : List Relation) → Judges catalog old p → Judges catalog old q → (r : Plan) → Judges catalog old r → Judges catalog new r
