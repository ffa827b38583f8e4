use Rattle.std.proofs.Common.{sym, ◌∙◌}
use Rattle.std.proofs.lemmas.Result.{IfOk-weaker}
use Rattle.vx_plan_json.specs.PlanView.{document_of}
use Rattle.vx_check_annotate.proofs.VerdictFacts.{claims-refuse, plainly}
use Rattle.vx_check_annotate.proofs.verdict.is_accepted_by_claims.Goals as goal

pub returns-then-derives : goal.returns-then-derives
returns-then-derives c = sym (claims-refuse c.args.catalog.now (document_of c.args.plan.now) c.len-relations.ensures.fine c.args.plan.now.formed (c.requires (sym c.derives.ensures ∙ c.if-derives.true)))

pub returns : goal.returns
returns c =
    let plain = sym c.derives.ensures ∙ c.if-derives.false in
    IfOk-weaker c.is_accepted.result _ _ (λ b h. h ∙ plainly c.args.catalog.now (document_of c.args.plan.now) c.len-relations.ensures.fine c.args.plan.now.formed plain) c.is_accepted.ensures
