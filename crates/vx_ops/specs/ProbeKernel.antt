-- What a kernel makes of the first rows of a batch of its left input.
use Rattle.std.specs.Prelude.{◌≡◌, List, ◌++◌}
use Rattle.vx_rows_values.specs.Values.{Row}
use Rattle.vx_plan_nodes.specs.Plan.{Binary}
use Rattle.vx_plan_nodes.specs.Serial.{binary_rows}

-- the joined rows are what the operator makes of the first rows of the batch and all right rows, and the others of the batch are the rest
pub record IsProbed (op : Binary) (rights batch joined rest : List Row) : Type 0 where
  pub front : List Row
  pub parts : front ++ rest ≡ batch
  pub made : binary_rows op front rights ≡ joined
