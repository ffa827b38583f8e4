-- What the nodes of a plan may name, and a typed plan with these names.
use Rattle.std.specs.Prelude.{List, map, length, Bool}
use Rattle.vx_rows_values.specs.Values.{Name}
use Rattle.vx_rows_values.specs.Ranges.{RangeForm}
use Rattle.vx_catalog_relations.specs.Relation.{Relation}
use Rattle.vx_plan_nodes.specs.Outline.{Outline}
use Rattle.vx_plan_nodes.specs.Typed.{Scope}

-- what the nodes of a plan may name
pub record Names : Type 0 where
  pub catalog : List Relation
  pub ranges : List RangeForm
  pub sizes : List Name

-- the same without the names
abbrev pub scope_of : Names → Scope
scope_of s = record { catalog = s.catalog; ranges = map (λ r. r.bounds) s.ranges; sizes = length s.sizes }

-- a typed plan with its names, over its catalog
pub record TypedPlanView : Type 0 where
  pub names : Names
  pub total : Bool
  pub derives : Bool
  pub root : Outline
