use Rattle.std.proofs.Common.{sym, subst, Bool, List, true, false}
use Rattle.vx_rows_values.specs.Values.{Row}
use Rattle.vx_plan_nodes.specs.Plan.{Unary}
use Rattle.vx_ops.specs.declared.fault.StreamState.{StreamState}
use Rattle.vx_ops.specs.declared.fault.StreamState.TheVariants.{Running}
use Rattle.vx_ops.specs.Collecting.{IsCollected}
use Rattle.vx_ops.proofs.Collects.{finish-rows, with_all}
use Rattle.vx_ops.proofs.collecting.Collecting.conclude.Goals as goal

pub returns-else-len-eq0-clause-stands : goal.returns-else-len-eq0-clause-stands
returns-else-len-eq0-clause-stands g c l h =
    let K = g.K.CollectingKernel in
    let s = c.args.self.now in
    let k = s.kernel in
    let T : List Row → Type 0 = K.HasRead k in
    let U : List Row → Type 0 = K.HasRead c.finish.new.self in
    let P : StreamState → Type 0 = λ o. IsCollected s.node (K.unary k) T s.finished o l in
    let Q : Bool → Type 0 = λ b. IsCollected s.node (K.unary k) T b Running l in
    let R : StreamState → Type 0 = λ o. IsCollected s.node (K.unary k) U true o (with_all l c.in-Ok.made.rows) in
    let V : Unary → Type 0 = λ u. IsCollected s.node u U true s.over (with_all l c.in-Ok.made.rows) in
    let before : IsCollected s.node (K.unary k) T false Running l = subst Q c.requires.reading (subst P c.requires.running h) in
    let done : IsCollected s.node (K.unary k) U true Running (with_all l c.in-Ok.made.rows)
    = finish-rows s.node (K.unary k) (g.met.K.CollectingKernel.empty k) T U l c.in-Ok.made.rows (λ t. c.in-Ok.ensures.rows l.left.rows t) before in
    subst V (sym c.finish.ensures.unary) (subst R (sym c.requires.running) done)
