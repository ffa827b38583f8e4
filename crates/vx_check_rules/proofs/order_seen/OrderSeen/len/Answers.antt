use Rattle.std.proofs.Common.{arith}
use Rattle.vx_check_rules.proofs.FrontFacts.{length-on}
use Rattle.vx_check_rules.proofs.order_seen.OrderSeen.len.Goals as goal

pub returns-in-Lefts : goal.returns-in-Lefts
returns-in-Lefts c =
    let is = length-on (λ x. x.0) c.in-Lefts.on.now c.in-Lefts.falls.now in
    rw c.in-Lefts.is (omega (arith, c.min.ensures, is))

pub returns-in-Rights : goal.returns-in-Rights
returns-in-Rights c =
    let is = length-on (λ x. x.1) c.in-Rights.on.now c.in-Rights.falls.now in
    rw c.in-Rights.is (omega (arith, c.min-in-Rights.ensures, is))
