use Rattle.std.proofs.Common.{◌≡◌, ◌∙◌, true, false, sym}
use Rattle.std.proofs.lemmas.Result.{IfOk-weaker}
use Rattle.vx_plan_nodes.specs.TypedView.{resolved_of}
use Rattle.vx_plan_json.specs.PlanView.{document_of}
use Rattle.vx_check_annotate.proofs.OwnClaims.{over, same-nodes, tells-as-much}
use Rattle.vx_check_annotate.proofs.keeping.claims_as_much.Goals as goal
use Rattle.vx_check_annotate.proofs.keeping.claims_as_much.Goals.{else-is_total-via-then-is_total+else-not-is_total, else-is_total-via-else-is_total}

pub does_tell-requires-clause-catalog : goal.does_tell-requires-clause-catalog
does_tell-requires-clause-catalog c =
    let given = c.requires.given.1 in
    over c.args.catalog.now c.requires.given.0 (resolved_of c.args.given.now) c.len-relations.ensures.fine given.formed given.resolves
    ∙ sym (over c.args.catalog.now (document_of c.args.plan.now) (resolved_of c.in_ok-typed.typed) c.len-relations.ensures.fine c.args.plan.now.formed c.in_ok-typed.ensures)

pub does_tell-requires-clause-same : goal.does_tell-requires-clause-same
does_tell-requires-clause-same c =
    same-nodes c.args.catalog.now c.requires.given.0 (document_of c.args.plan.now) (resolved_of c.args.given.now) (resolved_of c.in_ok-typed.typed) c.len-relations.ensures.fine c.args.plan.now.formed c.requires.given.1 c.in_ok-typed.ensures

pub returns : goal.returns
returns c = λ d given.
    let q = resolved_of c.args.given.now in
    let p = resolved_of c.in_ok-typed.typed in
    let e = document_of c.args.plan.now in
    let total : q.total ≡ true → p.total ≡ true = λ t. elim c.else-is_total.branch [
      | else-is_total-via-then-is_total+else-not-is_total w ↦ sym w.is_total-then-is_total.ensures ∙ w.if-not-is_total.false
      | else-is_total-via-else-is_total w ↦ let no : false ≡ true = sym w.if-is_total.false ∙ (c.is_total.ensures ∙ t) in cc
    ] in
    let same = over c.args.catalog.now e p c.len-relations.ensures.fine c.args.plan.now.formed c.in_ok-typed.ensures in
    IfOk-weaker c.does_tell.result _ _ (λ b is so. tells-as-much c.args.catalog.now d e q p given.resolves c.in_ok-typed.ensures same (sym is ∙ so) total) c.does_tell.ensures
