-- The setup of a run whatever the plan's functions are: the law of plans under other functions.
use Rattle.std.specs.Prelude.{◌≡◌, List}
use Rattle.vx_catalog.specs.Database.{Database}
use Rattle.vx_plan_nodes.specs.Names.{TypedPlanView}
use Rattle.vx_plan_nodes.specs.Plan.{Plan}
use Rattle.vx_plan_nodes.specs.Under.{Functions, under, typed_plan_under}
use Rattle.vx_exec_runs.specs.Runs.{HasSizes}
use Rattle.vx_exec_runs.specs.Setup.{sizes_set}
use Rattle.vx_exec_runs.specs.Sizes.{Sizes}
use Rattle.vx_exec_setup.specs.Setup.{SetupView}
use Rattle.vx_rows_values.specs.Values.{Name}

-- it comes to the same sizes, or to the same refusal
pub record SetupStays : Type 0 where
  pub sizes : (given : Functions) (s : SetupView) (names : List Name) (p : Plan) → sizes_set s names (under given p) ≡ sizes_set s names p
  pub set : (given : Functions) (p : TypedPlanView) (db : Database) (setup : SetupView) (s : Sizes) → HasSizes p db setup s → HasSizes (typed_plan_under given p) db setup s
