use Rattle.std.proofs.Common.{◌≡◌, Some, length, ap, sym, subst}
use Rattle.vx_plan_nodes.specs.Plan.{Binary}
use Rattle.vx_ops.specs.Ledger.{Stream}
use Rattle.vx_ops.specs.ProbeKernel.{IsProbed}
use Rattle.vx_ops.specs.Probing.{IsProbing, until_ready}
use Rattle.vx_ops.specs.declared.fault.StreamState.{StreamState}
use Rattle.vx_ops.specs.declared.fault.StreamState.TheVariants.{Running}
use Rattle.vx_ops.proofs.ProbeCosts.{probe-pays}
use Rattle.vx_ops.proofs.Probes.{probe-rows, with_joined}
use Rattle.vx_ops.proofs.probing.Probing.probe.Goals as goal

pub returns-in-Ok-clause-stands : goal.returns-in-Ok-clause-stands
returns-in-Ok-clause-stands g c l h =
    let K = g.K.ProbeKernel in
    let i = c.self.inside in
    let k = i.kernel in
    let j = c.probe.new.self in
    let t = c.args.batch in
    let js = c.in-Ok.joined.rows in
    let now : IsProbing i.node (K.binary k) (K.HasRead k) (K.HasBuilt k) i.ready (Some t) i.over l
    = subst (λ v. IsProbing v.node (K.binary v.kernel) (K.HasRead v.kernel) (K.HasBuilt v.kernel) v.ready (Some t) v.over l) (sym c.self.view_is) h in
    let runs : i.over ≡ Running = subst (λ v. v.over ≡ Running) (sym c.self.view_is) c.requires.running in
    let P : StreamState → Type 0 = λ o. IsProbing i.node (K.binary k) (K.HasRead k) (K.HasBuilt k) i.ready (Some t) o l in
    let done : IsProbing i.node (K.binary k) (K.HasRead j) (K.HasBuilt j) i.ready c.held.result Running (with_joined l js)
    = probe-rows i.node (K.binary k) (g.met.K.ProbeKernel.empty k) (K.HasRead k) (K.HasBuilt k) (K.HasRead j) (K.HasBuilt j) l (g.met.K.ProbeKernel.parts k) i.ready c.held.result t js
    (λ b. c.in-Ok.ensures.built l.right.rows b)
    (λ b. subst (λ ms. IsProbed (K.binary k) l.right.rows t.rows js ms) (sym c.held.ensures.rows) (c.in-Ok.ensures.probed l.right.rows b))
    (subst P runs now) in
    let V : Binary → Type 0 = λ o. IsProbing i.node o (K.HasRead j) (K.HasBuilt j) i.ready c.held.result Running (with_joined l js) in
    let O : StreamState → Type 0 = λ o. IsProbing i.node (K.binary j) (K.HasRead j) (K.HasBuilt j) i.ready c.held.result o (with_joined l js) in
    let G : Stream → Type 0 = λ v. IsProbing i.node (K.binary j) (K.HasRead j) (K.HasBuilt j) i.ready c.held.result i.over (record l { gave = v }) in
    subst G (sym (c.returned.ensures.heard l.gave)) (subst O (sym runs) (subst V (sym c.probe.ensures.binary) done))

pub returns-in-Ok-clause-pays : goal.returns-in-Ok-clause-pays
returns-in-Ok-clause-pays g c k =
    let K = g.K.ProbeKernel in
    let i = c.self.inside in
    let runs : i.over ≡ Running = subst (λ v. v.over ≡ Running) (sym c.self.view_is) c.requires.running in
    rw (← c.self.view_is)
    (probe-pays i.over (length c.args.batch.rows) (length c.in-Ok.rest.rows) k.left (K.each i.kernel k.right) (K.each c.probe.new.self k.right) (length c.in-Ok.joined.rows) (until_ready i.ready) c.held.result c.returned.result
    runs (ap length c.held.ensures.rows) c.returned.ensures.rows (c.in-Ok.ensures.fewer c.requires.some) (c.in-Ok.ensures.held k.right) (c.in-Ok.ensures.joins k.right))
