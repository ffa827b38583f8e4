use Rattle.vx_check_directions.proofs.Accepting.{directed-is-accepted}
use Rattle.vx_check_directions.proofs.directed_is_accepted.Goals as goal

pub returns : goal.returns
returns c = directed-is-accepted
