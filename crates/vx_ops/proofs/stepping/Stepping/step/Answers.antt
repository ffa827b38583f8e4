use Rattle.std.proofs.Common.{rules, ◌≡◌, ◌++◌, sym, subst, Some, Bool, true, false}
use Rattle.vx_plan_nodes.specs.Plan.{Unary}
use Rattle.vx_plan_nodes.specs.Serial.{unary_rows}
use Rattle.vx_ops.specs.declared.fault.StreamState.{StreamState}
use Rattle.vx_ops.specs.declared.fault.StreamState.TheVariants.{Running}
use Rattle.vx_ops.specs.Stepping.{IsStepped}
use Rattle.vx_ops.proofs.Steps.{step-rows, with_rows}
use Rattle.vx_ops.proofs.stepping.Stepping.step.Goals as goal

pub returns-else-len-eq0-clause-stands : goal.returns-else-len-eq0-clause-stands
returns-else-len-eq0-clause-stands g c l h =
    let K = g.K.StepKernel in
    let s = c.args.self.now in
    let k = s.kernel in
    let j = c.step.new.self in
    let xs = c.args.batch.rows in
    let ys = c.in-Ok.made.rows in
    let off : s.overflowed ≡ false = search rules in
    let P : StreamState → Type 0 = λ o. IsStepped s.node (K.unary k) (K.HasMade k) s.overflowed o l in
    let B : Bool → Type 0 = λ b. IsStepped s.node (K.unary k) (K.HasMade k) b Running l in
    let Q : Bool → Type 0 = λ b. IsStepped s.node (K.unary k) (K.HasMade j) b Running (with_rows l xs ys) in
    let R : StreamState → Type 0 = λ o. IsStepped s.node (K.unary k) (K.HasMade j) s.overflowed o (with_rows l xs ys) in
    let V : Unary → Type 0 = λ u. IsStepped s.node u (K.HasMade j) s.overflowed s.over (with_rows l xs ys) in
    let M : Unary → Type 0 = λ u. unary_rows u (l.left.rows ++ xs) ≡ Some (l.gave.rows ++ ys) in
    let done : IsStepped s.node (K.unary k) (K.HasMade j) false Running (with_rows l xs ys)
    = step-rows s.node (K.unary k) (g.met.K.StepKernel.at_once k s.node) (K.HasMade k) (K.HasMade j) l xs ys (λ t. c.in-Ok.ensures.made l.left.rows l.gave.rows t) (λ t. subst M c.step.ensures.unary (g.met.K.StepKernel.serial j (l.left.rows ++ xs) (l.gave.rows ++ ys) t)) (subst B off (subst P c.requires.running h)) in
    subst V (sym c.step.ensures.unary) (subst R (sym c.requires.running) (subst Q (sym off) done))
