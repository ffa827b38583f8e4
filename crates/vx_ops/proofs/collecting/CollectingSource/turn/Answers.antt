use Rattle.std.proofs.Common.{◌≡◌, ◌∙◌, ap, le_refl}
use Rattle.vx_ops.specs.Turn.{with_rows}
use Rattle.vx_ops.specs.Collecting.{collecting_want, collecting-grows}
use Rattle.vx_ops.specs.declared.turn.Got.TheVariants as got
use Rattle.vx_ops.specs.declared.turn.Polled.TheVariants as polled
use Rattle.vx_ops.proofs.Costs.{pays-within, rows-more}
use Rattle.vx_ops.proofs.collecting.CollectingSource.turn.Goals as goal

pub returns-in-Input-End-clause-pays : goal.returns-in-Input-End-clause-pays
returns-in-Input-End-clause-pays g c k =
    let s = c.args.self.now in
    let w = collecting_want s.finished s.over in
    let is : c.args.got ≡ got.Input polled.End = c.in-Input-End.is ∙ ap got.Input c.in-Input-End.field-0-is in
    rw is
    (pays-within 1 1 _ _ _ _ _ _ c.conclude.result (le_refl 1) (collecting-grows g.K.CollectingKernel.held s k (with_rows w (got.Input polled.End) k) (rows-more w (got.Input polled.End) k)) (le_refl 0)
    (c.conclude.ensures.pays k))
