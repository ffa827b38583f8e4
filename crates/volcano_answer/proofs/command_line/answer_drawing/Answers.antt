use Rattle.std.proofs.Common.{◌≡◌, ◌∙◌, map, refl, ap, List, ℕ, subst}
use Rattle.std.proofs.lemmas.Result.{err_from_is_err_and}
use Rattle.vx_check_rules.specs.CheckedView.{typed_plan}
use Rattle.vx_plan_nodes.specs.Names.{TypedPlanView}
use Rattle.vx_plan_nodes.specs.TypedView.{resolved_of}
use Rattle.volcano_arguments.specs.Asked.{paths_are}
use Rattle.volcano_answer.specs.CommandLine.{for_form_planning, for_form, for_drawing, for_asked_drawing, for_picture, for_statistics}
use Rattle.volcano_answer.specs.Forms.{for_note}
use Rattle.volcano_drawing.specs.Drawing.{IsDrawn}
use Rattle.volcano_drawing.specs.Fault.{IsDrawFault}
use Rattle.volcano_stats.specs.Words.{op_words}
use Rattle.volcano_answer.proofs.CommandLineFacts.{drawing_fault}
use Rattle.volcano_answer.proofs.command_line.answer_drawing.Goals as goal

pub returns-in_err-plan-clause-refused : goal.returns-in_err-plan-clause-refused
returns-in_err-plan-clause-refused g c =
    let p = err_from_is_err_and c.from_residual.result c.from_residual.ensures.1 in
    rw (p.1, p.2) (for_asked_drawing (paths_are c.args.sources) c.args.stats.now refl (for_picture (for_form_planning c.in_err-plan.ensures.refused)))

pub returns-in_err-checked-clause-refused : goal.returns-in_err-checked-clause-refused
returns-in_err-checked-clause-refused g c =
    let p = err_from_is_err_and c.from_residual-in_err-checked.result c.from_residual-in_err-checked.ensures.1 in
    rw (p.1, p.2)
    (for_asked_drawing (paths_are c.args.sources) c.args.stats.now refl (for_picture (for_form (resolved_of c.in_ok-plan.plan) c.in_ok-plan.ensures.planned (for_note c.in_err-checked.ensures.refused))))

pub returns-in_err-counted-clause-refused : goal.returns-in_err-counted-clause-refused
returns-in_err-counted-clause-refused g c =
    let p = err_from_is_err_and c.from_residual-in_err-counted.result c.from_residual-in_err-counted.ensures.1 in
    rw (p.1, p.2) (for_asked_drawing (paths_are c.args.sources) c.args.stats.now refl (for_statistics c.in_err-counted.ensures.refused))

pub returns-in-Ok-clause-answer : goal.returns-in-Ok-clause-answer
returns-in-Ok-clause-answer g c =
    let plan = resolved_of c.in_ok-plan.plan in
    let words : map (λ w. w.now) c.as_slice.result.now ≡ op_words plan.root = ap (map (λ w. w.now)) c.as_slice.ensures.value ∙ c.in_ok-words.ensures in
    let checked : resolved_of (typed_plan c.in_ok-checked.checked) ≡ plan = ap resolved_of c.in_ok-checked.ensures.plan in
    let drawn = rw c.as_slice-2.ensures.value at c.in-Ok.ensures.drawn in
    let Words : List (List ℕ) → Type 0 = λ ws. IsDrawn ws (resolved_of (typed_plan c.in_ok-checked.checked)) c.in_ok-counted.counted.items c.in-Ok.drawing.items in
    let Plan : TypedPlanView → Type 0 = λ p. IsDrawn (op_words plan.root) p c.in_ok-counted.counted.items c.in-Ok.drawing.items in
    rw c.from.ensures (for_drawing (paths_are c.args.sources) c.args.stats.now refl
    (plan, c.in_ok-counted.counted.items, c.in_ok-plan.ensures.planned, c.in_ok-checked.ensures.shown, c.in_ok-counted.ensures.bytes, subst Plan checked (subst Words words drawn)))

pub returns-clause-refused : goal.returns-clause-refused
returns-clause-refused g c =
    let plan = resolved_of c.in_ok-plan.plan in
    let words : map (λ w. w.now) c.as_slice.result.now ≡ op_words plan.root = ap (map (λ w. w.now)) c.as_slice.ensures.value ∙ c.in_ok-words.ensures in
    let fault = rw c.as_slice-2.ensures.value at c.in-Err.ensures.refused in
    let Words : List (List ℕ) → Type 0 = λ ws. IsDrawFault ws c.in_ok-counted.counted.items c.in-Err.fault in
    drawing_fault (g.F.Store.holds c.args.files.now) (g.F.Store.is_reliable c.args.files.now) (g.I.ByteIn.remaining c.args.input.now) (g.I.ByteIn.has_failed c.bytes_at.new.input)
    (paths_are c.args.sources) c.args.stats.now plan c.in_ok-counted.counted.items c.in-Err.fault c.no_drawing.result c.in_ok-plan.ensures.planned c.in_ok-counted.ensures.bytes
    (subst Words words fault) c.no_drawing.ensures
