use Rattle.vx_ports.proofs.Endings.{last-is-final}
use Rattle.vx_ports.proofs.laws.last_is_final.Goals as goal

pub returns : goal.returns
returns c = last-is-final
