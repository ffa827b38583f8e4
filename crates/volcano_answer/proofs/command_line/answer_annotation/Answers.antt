use Rattle.std.proofs.Common.{subst}
use Rattle.std.proofs.lemmas.Result.{err_from_is_err_and, IfOk-weaker}
use Rattle.std.specs.Prelude.{IfOk, IfErr}
use Rattle.vx_plan_json.specs.Document.{Document}
use Rattle.vx_plan_json.specs.PlanView.{document_of}
use Rattle.volcano_arguments.specs.Asked.{paths_are}
use Rattle.volcano_answer.specs.Annotated.{IsAnnotated, AnnotationRefuses}
use Rattle.volcano_answer.specs.CommandLine.{for_annotation_reading}
use Rattle.volcano_answer.proofs.CommandLineFacts.{annotation_refused}
use Rattle.volcano_answer.proofs.command_line.answer_annotation.Goals as goal

pub returns-in_err-catalog-clause-refused : goal.returns-in_err-catalog-clause-refused
returns-in_err-catalog-clause-refused g c =
    let p = err_from_is_err_and c.from_residual.result c.from_residual.ensures.1 in
    rw (p.1, p.2) (for_annotation_reading c.in_err-catalog.ensures.refused)

pub returns-clause-text : goal.returns-clause-text
returns-clause-text g c =
    let Annotated : Document → Type 0 = λ d. IfOk c.annotated_plan.result (λ text. IsAnnotated c.in_ok-catalog.catalog d text.items) in
    IfOk-weaker c.annotated_plan.result _ _ (λ text h. (c.in_ok-catalog.catalog, document_of c.in_ok-catalog.plan, c.in_ok-catalog.ensures.read, h))
    (subst Annotated c.asking_if-asking.ensures c.annotated_plan.ensures.text)

pub returns-clause-refused : goal.returns-clause-refused
returns-clause-refused g c =
    let Refused : Document → Type 0 = λ d. IfErr c.annotated_plan.result (AnnotationRefuses c.in_ok-catalog.catalog d) in
    annotation_refused (g.F.Store.holds c.args.files.now) (g.F.Store.is_reliable c.args.files.now) (g.I.ByteIn.remaining c.args.input.now) (g.I.ByteIn.has_failed c.document_from_files.new.input) (paths_are c.args.sources)
    c.args.derive c.in_ok-catalog.catalog (document_of c.in_ok-catalog.plan) c.annotated_plan.result c.in_ok-catalog.ensures.read (subst Refused c.asking_if-asking.ensures c.annotated_plan.ensures.refused)
