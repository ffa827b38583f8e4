-- That a plan's nodes have the columns of their outputs is a proposition.
use Rattle.std.specs.Prelude.{ℕ, List}
use denote.Struct.Props.{props}
use Rattle.std.specs.Coded.{coded_list}
use base.Stored.{Coded-set}
use Rattle.vx_rows_values.specs.declared.value.ColType.{ColType}
use Rattle.vx_rows_values.specs.contracts.value.ColType.{the_row}
use Rattle.vx_catalog_relations.specs.Relation.{Relation}
use Rattle.vx_plan_nodes.specs.Outline.{Columns, Outline, scan, unary, binary, exchange}
use Rattle.vx_plan_nodes.specs.Outputs.{IsOutputOf, HasOutputs}

types-set : IsSet (List ColType)
types-set = Coded-set (coded_list the_row.coded)

output-prop : (types : List ColType) (cols : Columns) → IsProp (IsOutputOf types cols)
output-prop types cols = hlevel (types-set, props)

pub outputs-prop : (catalog : ℕ → Relation) (o : Outline) → IsProp (HasOutputs catalog o)
outputs-prop catalog (scan h r m z p) = output-prop _ h.columns
outputs-prop catalog (unary h op flags t) = hlevel (output-prop, outputs-prop catalog t)
outputs-prop catalog (binary h op t u) = hlevel (output-prop, outputs-prop catalog t, outputs-prop catalog u)
outputs-prop catalog (exchange h x m t) = hlevel (output-prop, outputs-prop catalog t)
