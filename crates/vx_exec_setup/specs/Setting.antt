-- How a run is asked for.
use Rattle.vx_exec_setup.specs.Setup.{SetupView}
use Rattle.vx_exec_setup.specs.declared.setting.Mode.{Mode}

-- the setup of a run, and how its workers are run
pub record Setting : Type 0 where
  pub setup : SetupView
  pub mode : Mode
