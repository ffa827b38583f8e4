use Rattle.std.proofs.Common.{[], refl}
use Rattle.vx_ops.specs.Turn.{fresh_ledger}
use Rattle.vx_ops.proofs.Steps.{step-running}
use Rattle.vx_ops.proofs.stepping.Stepping.with_kernel.Goals as goal

pub returns-clause-stands : goal.returns-clause-stands
returns-clause-stands g c =
    let K = g.K.StepKernel in
    let k = c.args.kernel in
    step-running c.args.node (K.unary k) (g.met.K.StepKernel.at_once k c.args.node) (K.HasMade k) fresh_ledger refl c.requires (g.met.K.StepKernel.serial k [] [] c.requires) refl
