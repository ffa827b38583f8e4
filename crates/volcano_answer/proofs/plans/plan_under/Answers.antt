use Rattle.std.proofs.Common.{◌≡◌, Ok, refl, sym, subst}
use Rattle.std.proofs.lemmas.Result.{err_from_is_err_and, IfOk-weaker, IfErr-weaker}
use Rattle.vx_plan_json.specs.Fault as plan
use Rattle.vx_plan_json.specs.PlanView.{document_of}
use Rattle.vx_plan_json.specs.Reading.{document_of_text}
use Rattle.vx_plan_nodes.specs.TypedView.{resolved_of}
use Rattle.vx_plan_nodes.specs.declared.typed_plan.TypedPlan.{TypedPlan}
use Rattle.volcano_answer.specs.Files.{known_at, left_of}
use Rattle.volcano_answer.specs.Planning.{exactly, IsPlanned}
use Rattle.volcano_answer.specs.Plans.{plan_under, for_plan_under, for_notes}
use Rattle.volcano_answer.proofs.FileFacts.{known_all}
use Rattle.volcano_answer.proofs.PlanFacts.{is_planned, reading_fails, planning_fails}
use Rattle.volcano_answer.proofs.plans.plan_under.Goals as goal

pub returns-in_err-plan-clause-refused : goal.returns-in_err-plan-clause-refused
returns-in_err-plan-clause-refused g c =
    let files = g.F.Store.holds c.args.files.now in
    let input = left_of c.args.was_read (g.I.ByteIn.remaining c.args.input.now) in
    let relations = c.args.catalog.now in
    let written = c.in_ok-text.text.items in
    let fault = c.in_err-plan.field-0.0 in
    let fails : plan.Fails fault (document_of_text written) = rw c.as_slice.ensures.value at c.in_err-plan.ensures in
    let p = err_from_is_err_and c.from_residual-in_err-plan.result c.from_residual-in_err-plan.ensures.1 in
    rw (p.1, p.2) (for_plan_under (reading_fails (exactly (Ok relations)) (plan_under files input c.args.path.now) relations (document_of_text written) fault refl
    (λ P h. known_all (λ bytes. P (document_of_text bytes)) (known_at files input c.args.path.now) written c.in_ok-text.ensures.bytes h) fails))

pub returns-in_err-planned-clause-refused : goal.returns-in_err-planned-clause-refused
returns-in_err-planned-clause-refused g c =
    let files = g.F.Store.holds c.args.files.now in
    let input = left_of c.args.was_read (g.I.ByteIn.remaining c.args.input.now) in
    let relations = c.args.catalog.now in
    let written = c.in_ok-text.text.items in
    let d = document_of c.in_ok-plan.plan in
    let reads : document_of_text written ≡ Ok d = rw c.as_slice.ensures.value at c.in_ok-plan.ensures in
    let p = err_from_is_err_and c.from_residual-in_err-planned.result c.from_residual-in_err-planned.ensures.1 in
    rw (p.1, p.2) (for_plan_under (planning_fails (exactly (Ok relations)) (plan_under files input c.args.path.now) relations d (document_of_text written) c.in_err-planned.field-0.0 refl
    (λ P h. known_all (λ bytes. P (document_of_text bytes)) (known_at files input c.args.path.now) written c.in_ok-text.ensures.bytes h) reads c.in_err-planned.ensures))

pub returns-clause-planned : goal.returns-clause-planned
returns-clause-planned g c =
    let files = g.F.Store.holds c.args.files.now in
    let input = left_of c.args.was_read (g.I.ByteIn.remaining c.args.input.now) in
    let relations = c.args.catalog.now in
    let written = c.in_ok-text.text.items in
    let d = document_of c.in_ok-plan.plan in
    let reads : document_of_text written ≡ Ok d = rw c.as_slice.ensures.value at c.in_ok-plan.ensures in
    let P : TypedPlan → Type 0 = λ p. IsPlanned (exactly (Ok relations)) (plan_under files input c.args.path.now) (resolved_of p) in
    let planned : P c.in_ok-planned.field-0 = is_planned (exactly (Ok relations)) (plan_under files input c.args.path.now) relations d (document_of_text written) (resolved_of c.in_ok-planned.field-0) refl
    (λ Q h. known_all (λ bytes. Q (document_of_text bytes)) (known_at files input c.args.path.now) written c.in_ok-text.ensures.bytes h) reads c.in_ok-planned.ensures in
    IfOk-weaker c.accepted.result _ _ (λ checked e. subst P (sym e) planned) c.accepted.ensures.plan

pub returns-clause-refused : goal.returns-clause-refused
returns-clause-refused g c =
    let files = g.F.Store.holds c.args.files.now in
    let input = left_of c.args.was_read (g.I.ByteIn.remaining c.args.input.now) in
    let relations = c.args.catalog.now in
    let written = c.in_ok-text.text.items in
    let d = document_of c.in_ok-plan.plan in
    let reads : document_of_text written ≡ Ok d = rw c.as_slice.ensures.value at c.in_ok-plan.ensures in
    let planned = is_planned (exactly (Ok relations)) (plan_under files input c.args.path.now) relations d (document_of_text written) (resolved_of c.in_ok-planned.field-0) refl
    (λ Q h. known_all (λ bytes. Q (document_of_text bytes)) (known_at files input c.args.path.now) written c.in_ok-text.ensures.bytes h) reads c.in_ok-planned.ensures in
    IfErr-weaker c.accepted.result _ _ (λ e h. for_notes (resolved_of c.in_ok-planned.field-0) planned h) c.accepted.ensures.refused
