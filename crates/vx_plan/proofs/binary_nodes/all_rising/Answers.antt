use Rattle.std.proofs.Common.{◌≡◌, ◌∙◌, ap, arith, false, length, replicate}
use Rattle.vx_plan.proofs.RisingFacts.{as_many}
use Rattle.vx_plan.proofs.binary_nodes.all_rising.Goals as goal

pub returns : goal.returns
returns c =
    let all : c.loop.counter ≡ length c.args.on.now = omega (arith, c.loop.auto.counter-end, c.loop-test.false) in
    c.loop.invariant ∙ (ap (λ n. replicate n false) all ∙ as_many c.args.on.now)
