use Rattle.vx_ports.proofs.Living.{link-flows}
use Rattle.vx_ports.proofs.laws.link_flows.Goals as goal

pub returns : goal.returns
returns c = link-flows
