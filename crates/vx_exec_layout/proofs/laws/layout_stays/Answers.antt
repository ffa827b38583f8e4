use Rattle.vx_exec_layout.proofs.UnderFacts.{layout-stays}
use Rattle.vx_exec_layout.proofs.laws.layout_stays.Goals as goal

pub returns : goal.returns
returns c = layout-stays
