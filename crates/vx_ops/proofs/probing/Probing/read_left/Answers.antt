use Rattle.std.proofs.Common.{◌≡◌, ◌∙◌, ◌≤◌, Some, length, ap, sym, subst, zero-le}
use Rattle.vx_ops.specs.Turn.{took, gives}
use Rattle.vx_ops.specs.Probing.{IsProbing, rest_rows, until_ready}
use Rattle.vx_ops.specs.declared.fault.StreamState.{StreamState}
use Rattle.vx_ops.specs.declared.fault.StreamState.TheVariants.{Running}
use Rattle.vx_ops.specs.declared.turn.Want.TheVariants as want
use Rattle.vx_ops.specs.declared.turn.Got.{Got}
use Rattle.vx_ops.specs.declared.turn.Got.TheVariants as got
use Rattle.vx_ops.specs.declared.turn.Polled.TheVariants as polled
use Rattle.vx_ops.proofs.Costs.{pays-within}
use Rattle.vx_ops.proofs.ProbeCosts.{left-most, left-idle}
use Rattle.vx_ops.proofs.Probes.{probe-held}
use Rattle.vx_ops.proofs.probing.Probing.read_left.Goals as goal

pub returns-in-Input-Gave-clause-stands : goal.returns-in-Input-Gave-clause-stands
returns-in-Input-Gave-clause-stands g c l h =
    let K = g.K.ProbeKernel in
    let s = c.args.self.now in
    let k = s.kernel in
    let t = c.in-Input-Gave.batch in
    let j = c.probe.new.self in
    let is : c.args.got ≡ got.Input (polled.Gave t) = c.in-Input-Gave.is ∙ ap got.Input c.in-Input-Gave.field-0-is in
    let k' = took l want.Left (got.Input (polled.Gave t)) in
    let P : StreamState → Type 0 = λ o. IsProbing s.node (K.binary k) (K.HasRead k) (K.HasBuilt k) s.ready s.rest o l in
    let Q : StreamState → Type 0 = λ o. IsProbing s.node (K.binary k) (K.HasRead k) (K.HasBuilt k) s.ready (Some t) o k' in
    let R : Got → Type 0 = λ q. IsProbing j.node (K.binary j.kernel) (K.HasRead j.kernel) (K.HasBuilt j.kernel) j.ready j.rest j.over (gives (took l want.Left q) c.probe.result) in
    let held : IsProbing s.node (K.binary k) (K.HasRead k) (K.HasBuilt k) s.ready (Some t) Running k'
    = probe-held s.node (K.binary k) (g.met.K.ProbeKernel.empty k) (K.HasRead k) (K.HasBuilt k) (K.HasRead k) (K.HasBuilt k) l s.ready s.rest t c.requires.probing (subst P c.requires.running h) in
    subst R (sym is) (c.probe.ensures.stands k' (subst Q (sym c.requires.running) held))

pub returns-in-Input-Gave-clause-pays : goal.returns-in-Input-Gave-clause-pays
returns-in-Input-Gave-clause-pays g c k =
    let s = c.args.self.now in
    let n = length c.in-Input-Gave.batch.rows in
    let more = length (rest_rows s.rest) in
    let less : 0 ≤ 1 = zero-le in
    let is : c.args.got ≡ got.Input (polled.Gave c.in-Input-Gave.batch) = c.in-Input-Gave.is ∙ ap got.Input c.in-Input-Gave.field-0-is in
    rw is
    (pays-within 1 0 _ _ _ _ _ _ c.probe.result less (left-most s.over n k.left (g.K.ProbeKernel.each s.kernel k.right) more) (left-idle s.over n k.left (until_ready s.ready) more) (c.probe.ensures.pays k))
