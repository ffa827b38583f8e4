use Rattle.std.proofs.Common.{None, false, refl}
use Rattle.vx_ops.specs.Turn.{fresh_ledger}
use Rattle.vx_ops.proofs.Probes.{probing-running}
use Rattle.vx_ops.proofs.probing.Probing.with_kernel.Goals as goal

pub returns-clause-stands : goal.returns-clause-stands
returns-clause-stands g c =
    let K = g.K.ProbeKernel in
    let k = c.args.kernel in
    probing-running c.args.node (K.binary k) (g.met.K.ProbeKernel.empty k) (K.HasRead k) (K.HasBuilt k) false None fresh_ledger refl (refl, c.requires, refl, refl) refl
