-- What a node says of its own output: the types that the plan gives it, and a name for each column.
use Rattle.std.specs.Prelude.{◌≡◌, ℕ, List, length}
use Rattle.vx_rows_values.specs.declared.value.ColType.{ColType}
use Rattle.vx_catalog_relations.specs.Relation.{Relation}
use Rattle.vx_plan_nodes.specs.Outline.{Columns, Outline, scan, unary, binary, exchange, columns, plan_in}
use Rattle.vx_plan_nodes.specs.Types.{types_of}

-- columns of these types, each with a name
pub record IsOutputOf (types : List ColType) (cols : Columns) : Type 0 where
  pub types_are : cols.types ≡ types
  pub names_are : length cols.names ≡ length types

-- the columns at the top are those of the plan's output
abbrev pub IsOutputAt : (ℕ → Relation) → Outline → Type 0
IsOutputAt catalog o = IsOutputOf (types_of catalog (plan_in o)) (columns o)

-- the columns at every node are those of the plan below it
abbrev pub HasOutputs : (ℕ → Relation) → Outline → Type 0
HasOutputs catalog (scan h r m z p) = IsOutputAt catalog (scan h r m z p)
HasOutputs catalog (unary h op flags t) = IsOutputAt catalog (unary h op flags t) × HasOutputs catalog t
HasOutputs catalog (binary h op t u) = IsOutputAt catalog (binary h op t u) × HasOutputs catalog t × HasOutputs catalog u
HasOutputs catalog (exchange h k m t) = IsOutputAt catalog (exchange h k m t) × HasOutputs catalog t
