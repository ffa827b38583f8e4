use Rattle.vx_plan_json.specs.PlanView.{document_of}
use Rattle.vx_plan_nodes.specs.TypedView.{resolved_of}
use Rattle.volcano_embedding.proofs.session.Session.check_all.Goals as goal

pub returns-clause-findings : goal.returns-clause-findings
returns-clause-findings c =
    let r = c.in_ok-document in
    let report = rw (c.in-Some.is, c.catalog.ensures) at c.in_ok-report.ensures in
    record { document = document_of r.document; plan = resolved_of r.plan; reads = r.ensures.document; says = r.ensures.planned; refused = report.0; grouped = report.1 }
