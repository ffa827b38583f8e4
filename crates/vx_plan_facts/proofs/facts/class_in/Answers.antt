use Rattle.std.proofs.Common.{◌==◌, get_or, ℕ, Bool, refl}
use Rattle.std.proofs.lemmas.Bool.{eq-eqb, ne_eqb}
use Rattle.vx_plan_facts.proofs.ValueLists.{kept-here, left-here}
use Rattle.vx_plan_facts.proofs.facts.class_in.Goals as goal
use Rattle.vx_plan_facts.proofs.facts.class_in.Goals.{then-firsts-column+in_ok-push, else-firsts-column}

pub loop-other-preserved : goal.loop-other-preserved
loop-other-preserved c =
    let test : ℕ → Bool = λ d. get_or c.args.firsts.now c.args.column 0 == get_or c.args.firsts.now d 0 in
    let n = c.loop-other.other in
    elim c.if-firsts-column.branch [
      | then-firsts-column+in_ok-push w ↦ rw (w.class-is, w.in_ok-push.ensures.items) (kept-here test n _ _ c.loop-other.invariant refl (eq-eqb _ _ w.if-firsts-column.true))
      | else-firsts-column w ↦ rw w.class-is (left-here test n _ _ c.loop-other.invariant refl (ne_eqb _ _ w.if-firsts-column.false))
    ]
