use Rattle.std.proofs.Common.{rules, ◌≡◌, subst, Bool, true, false}
use Rattle.vx_ops.specs.declared.fault.StreamState.{StreamState}
use Rattle.vx_ops.specs.declared.fault.StreamState.TheVariants.{Running}
use Rattle.vx_ops.specs.Stepping.{IsStepped}
use Rattle.vx_ops.proofs.Steps.{step-late}
use Rattle.vx_ops.proofs.stepping.Stepping.conclude.Goals as goal

pub returns-clause-stands : goal.returns-clause-stands
returns-clause-stands g c l h =
    let K = g.K.StepKernel in
    let s = c.args.self.now in
    let k = s.kernel in
    let on : s.overflowed ≡ true = search rules in
    let P : StreamState → Type 0 = λ o. IsStepped s.node (K.unary k) (K.HasMade k) s.overflowed o l in
    let B : Bool → Type 0 = λ b. IsStepped s.node (K.unary k) (K.HasMade k) b Running l in
    step-late s.node (K.unary k) (g.met.K.StepKernel.at_once k s.node) (K.HasMade k) (K.HasMade k) s.overflowed l (subst B on (subst P c.requires.running h))
