use Rattle.std.proofs.Common.{subst}
use Rattle.vx_exec_threads.specs.Drawers.{DealsAs}
use Rattle.vx_exec_steps.proofs.Seats.{drew-hand}
use Rattle.vx_exec_threads.proofs.drawer.Dealer.draw.Goals as goal

pub returns-in-Hand-clause-deals : goal.returns-in-Hand-clause-deals
returns-in-Hand-clause-deals c = λ d h. drew-hand c.in-Hand.hand c.draw-in-Hand.new.self c.draw-in-Hand.result d c.draw-in-Hand.ensures (subst (λ z. DealsAs z d) c.in-Hand.is h)
