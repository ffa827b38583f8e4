use Rattle.std.proofs.Common.{refl}
use Rattle.vx_ops.specs.Turn.{fresh_ledger}
use Rattle.vx_ops.proofs.Collects.{collect-taking}
use Rattle.vx_ops.proofs.collecting.Collecting.with_kernel.Goals as goal

pub returns-clause-stands : goal.returns-clause-stands
returns-clause-stands g c =
    let K = g.K.CollectingKernel in
    let k = c.args.kernel in
    collect-taking c.args.node (K.unary k) (g.met.K.CollectingKernel.empty k) (K.HasRead k) fresh_ledger refl c.requires refl refl
