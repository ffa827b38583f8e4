use Rattle.vx_check_options.proofs.OnlyOptions.{only-options}
use Rattle.vx_check_options.proofs.only_options.Goals as goal

pub returns : goal.returns
returns c = only-options
