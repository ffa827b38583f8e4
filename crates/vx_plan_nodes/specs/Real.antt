-- When an overflow that a run reports is one of its plan.
use Rattle.std.specs.Prelude.{ℕ, ◌⊎◌, List}
use Rattle.vx_rows_values.specs.Values.{Row}
use Rattle.vx_plan_nodes.specs.Plan.{Plan}
use Rattle.vx_plan_nodes.specs.Serial.{serial, IsOverflow, HasTooLong, HasLargePart}
use Rattle.vx_plan_nodes.specs.Erase.{erase}

-- the plan without exchanges overflows, or the serial input of one of its groupings has more than 2^62 rows. Or some rows of one key of the serial input of a
-- grouping in two phases have a sum outside 64 bits
abbrev pub IsReal : (ℕ → List Row) → Plan → Type 0
IsReal db p = IsOverflow (serial db (erase p)) ⊎ (HasTooLong db p ⊎ HasLargePart db p)
