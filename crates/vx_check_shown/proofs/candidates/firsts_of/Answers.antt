use Rattle.std.proofs.Common.{slice_get, ◌∙◌, ap, sym}
use Rattle.std.specs.Option.{option_copied}
use Rattle.vx_check_shown.proofs.Gathering.{first-slice, firsts-next, firsts-skip}
use Rattle.vx_check_shown.proofs.candidates.firsts_of.Goals as goal
use Rattle.vx_check_shown.proofs.candidates.firsts_of.Goals.{in-Some+in_ok-push, in_default}

pub loop-choice-preserved : goal.loop-choice-preserved
loop-choice-preserved c =
    let i = c.loop-choice.choice-index in
    elim c.match-first.branch [
      | in-Some+in_ok-push w ↦ rw (w.firsts-is, w.in_ok-push.ensures.items) (firsts-next c.args.choices.now i c.choice-item.result _ _ c.loop-choice-test.true c.choice-item.is (first-slice c.choice-item.result.items ∙ ap (λ xs. slice_get xs 0) (sym c.deref.ensures.value) ∙ sym c.first.ensures.value ∙ ap option_copied w.in-Some.is) c.loop-choice.invariant)
      | in_default w ↦ rw w.firsts-is (firsts-skip c.args.choices.now i c.choice-item.result _ c.loop-choice-test.true c.choice-item.is (first-slice c.choice-item.result.items ∙ ap (λ xs. slice_get xs 0) (sym c.deref.ensures.value) ∙ sym c.first.ensures.value ∙ ap option_copied w.in_default.is) c.loop-choice.invariant)
    ]
