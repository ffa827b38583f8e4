-- The layout of a run whatever the plan's functions are: the law of plans under other functions.
use Rattle.std.specs.Prelude.{◌≡◌, ℕ, List}
use Rattle.vx_rows_values.specs.Values.{Row}
use Rattle.vx_plan_nodes.specs.Plan.{Plan}
use Rattle.vx_plan_nodes.specs.Under.{Functions, under}
use Rattle.vx_exec_layout.specs.Layout.{spans_of}
use Rattle.vx_exec_layout.specs.Needed.{rounds_needed}

-- its exchanges lie between the same workers, the same workers read its scans, and the bound of its rounds is the same
pub record LayoutStays : Type 0 where
  pub spans : (given : Functions) (sizes : ℕ → ℕ) (p : Plan) (top next : ℕ) → spans_of sizes (under given p) top next ≡ spans_of sizes p top next
  pub rounds : (given : Functions) (db : ℕ → List Row) (sizes : ℕ → ℕ) (p : Plan) → rounds_needed db sizes (under given p) ≡ rounds_needed db sizes p
