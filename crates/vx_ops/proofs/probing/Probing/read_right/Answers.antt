use Rattle.std.proofs.Common.{◌≡◌, ◌∙◌, ap, le_refl}
use Rattle.vx_ops.specs.Turn.{with_rows}
use Rattle.vx_ops.specs.Probing.{probing-grows, probing-idle-grows}
use Rattle.vx_ops.specs.declared.turn.Want.TheVariants as want
use Rattle.vx_ops.specs.declared.turn.Got.TheVariants as got
use Rattle.vx_ops.specs.declared.turn.Polled.TheVariants as polled
use Rattle.vx_ops.proofs.Costs.{pays-within, rows-more}
use Rattle.vx_ops.proofs.probing.Probing.read_right.Goals as goal

pub returns-in-Input-Gave-clause-pays : goal.returns-in-Input-Gave-clause-pays
returns-in-Input-Gave-clause-pays g c =
    let is : c.args.got ≡ got.Input (polled.Gave c.in-Input-Gave.batch) = c.in-Input-Gave.is ∙ ap got.Input c.in-Input-Gave.field-0-is in
    rw is c.build.ensures.pays

pub returns-in-Input-End-clause-pays : goal.returns-in-Input-End-clause-pays
returns-in-Input-End-clause-pays g c k =
    let s = c.args.self.now in
    let before = with_rows want.Right (got.Input polled.End) k in
    let more = rows-more want.Right (got.Input polled.End) k in
    let is : c.args.got ≡ got.Input polled.End = c.in-Input-End.is ∙ ap got.Input c.in-Input-End.field-0-is in
    rw is
    (pays-within 1 1 _ _ _ _ _ _ c.finish_build.result (le_refl 1) (probing-grows g.K.ProbeKernel.each s (g.met.K.ProbeKernel.each_grows s.kernel) k before more) (probing-idle-grows s k before more) (c.finish_build.ensures.pays k))
