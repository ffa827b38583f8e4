-- The parts of a node's inputs, as the program holds them.
use Rattle.std.specs.Prelude.{◌≡◌, ◌≤◌, ℕ, true, List}
use Rattle.vx_catalog_relations.specs.Relation.{Relation}
use Rattle.vx_catalog_relations.specs.Catalog.{relation_at, all_below}
use Rattle.vx_plan_nodes.specs.Plan.{Part, Plan}
use Rattle.vx_plan_nodes.specs.Types.{width, part_columns}
use Rattle.vx_plan_nodes.specs.Describe.{Copying, side_by_side, DescribedBoth}
use Rattle.vx_plan_nodes.specs.declared.typed.TypedNode as rust_node
use Rattle.vx_plan_nodes.specs.Outline.{outline_of, plan_of}
use Rattle.vx_plan_nodes.specs.Outputs.{HasOutputs}
use Rattle.vx_plan_facts.specs.declared.known.KnownColumns as rust_known
use Rattle.vx_plan_facts.specs.KnownView.{IsKnownOf}
use Rattle.vx_check_rules.specs.KnownNode.{IsKnownTyped, AreCopiesOf}
use Rattle.vx_check_shown.specs.ShownPart.{are_named}

-- an input of which an output of w columns has such copies, and a part of its columns
pub record IsCopied (catalog : ℕ → Relation) (k : rust_known.KnownColumns) (p : Plan) (w : ℕ) (copying : Copying) (x : Part) : Type 0 where
  pub copies : AreCopiesOf catalog k p w copying
  pub named : all_below (width catalog p) (part_columns x) ≡ true

-- two inputs of w columns or more, and parts of their columns
pub record AreBeside (catalog : ℕ → Relation) (k : rust_known.KnownColumns) (p q : Plan) (w : ℕ) (x y : Part) : Type 0 where
  pub left : IsKnownOf catalog k p
  pub right : IsKnownOf catalog k q
  pub left_wide : w ≤ width catalog p
  pub right_wide : w ≤ width catalog q
  pub left_named : all_below (width catalog p) (part_columns x) ≡ true
  pub right_named : all_below (width catalog q) (part_columns y) ≡ true

-- two inputs of which an output of w columns has such copies; or their rows stand side by side
pub record AreBothCopied (catalog : ℕ → Relation) (k : rust_known.KnownColumns) (p q : Plan) (w : ℕ) (d : DescribedBoth) (x y : Part) : Type 0 where
  pub left : IsCopied catalog k p w d.left x
  pub right : IsCopied catalog k q w d.right y
  pub beside : d.meeting ≡ side_by_side → AreBeside catalog k p q w x y

-- parts of the inputs of a typed node, of whose columns is known
pub record AreInputParts (catalog : List Relation) (k : rust_known.KnownColumns) (t : rust_node.TypedNode) (left right : Part) : Type 0 where
  pub known : IsKnownTyped catalog k (plan_of t)
  pub outputs : HasOutputs (relation_at catalog) (outline_of t)
  pub named : are_named (relation_at catalog) (plan_of t) left right ≡ true
