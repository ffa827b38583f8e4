use Rattle.std.proofs.Common.{◌++◌, ◌∙◌, sym, ap, arith}
use Rattle.std.proofs.lemmas.List.{append-nil}
use Rattle.vx_check_directions.proofs.AskingSteps.{agreed-ends}
use Rattle.vx_check_directions.proofs.finding.agreed.Goals as goal

pub returns : goal.returns
returns c =
    let i = c.loop-place.place in
    sym (append-nil c.loop-place.falls.items)
    ∙ (ap (λ xs. c.loop-place.falls.items ++ xs) (sym (agreed-ends c.args.lefts.now c.args.rights.now i (omega (arith, c.loop-place-test.false, c.loop-place.auto.place-end, c.min-place-end.ensures)))) ∙ c.loop-place.invariant)
