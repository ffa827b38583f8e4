use Rattle.std.proofs.Common.{◌≡◌, ◌∙◌, ap, le_refl, arith}
use Rattle.vx_ops.specs.declared.turn.Got.TheVariants as got
use Rattle.vx_ops.specs.declared.turn.Polled.TheVariants as polled
use Rattle.vx_ops.proofs.Costs.{pays-within}
use Rattle.vx_ops.proofs.stepping.SteppingSource.turn.Goals as goal

pub returns-in-Input-Gave-clause-pays : goal.returns-in-Input-Gave-clause-pays
returns-in-Input-Gave-clause-pays g c =
    let is : c.args.got ≡ got.Input (polled.Gave c.in-Input-Gave.batch) = c.in-Input-Gave.is ∙ ap got.Input c.in-Input-Gave.field-0-is in
    rw (c.in-Running.is, is) c.step.ensures.pays

pub returns-in-Input-End-clause-pays : goal.returns-in-Input-End-clause-pays
returns-in-Input-End-clause-pays g c k =
    let is : c.args.got ≡ got.Input polled.End = c.in-Input-End.is ∙ ap got.Input c.in-Input-End.field-0-is in
    rw (c.in-Running.is, is) (pays-within 1 1 _ _ _ _ _ _ c.conclude.result (le_refl 1) (omega arith) (le_refl 0) (c.conclude.ensures.pays k))
