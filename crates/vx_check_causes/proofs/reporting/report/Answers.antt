use Rattle.std.proofs.Common.{List, ℕ, ◌∙◌, ap, map, length, sym, subst}
use Rattle.vx_plan_json.specs.PlanView.{document_of}
use Rattle.vx_plan_nodes.specs.TypedView.{resolved_of}
use Rattle.vx_check_rules.specs.Refusal.{Rule}
use Rattle.vx_check_failures.specs.Grouped.{grouped_lines}
use Rattle.vx_check_failures.specs.FailureView.{failure_is}
use Rattle.vx_check_causes.specs.Causes.{AreCauses}
use Rattle.vx_check_causes.specs.Grouped.{failures_of}
use Rattle.vx_check_causes.proofs.ReportFacts.{has_first}
use Rattle.vx_check_causes.proofs.reporting.report.Goals as goal

pub returns : goal.returns
returns c =
    let p = resolved_of c.args.typed.now in
    let len = sym c.as_slice.ensures.len ∙ ap length c.as_slice.ensures.value in
    let some = has_first failure_is c.in_ok-failures.failures.items (rw (c.is_empty.ensures, len) at c.if-is_empty.false) in
    let all = ap (map failure_is) c.as_slice.ensures.value ∙ c.in_ok-failures.ensures.all in
    let again = ap (map failure_is) c.as_slice-2.ensures.value ∙ c.in_ok-failures.ensures.all in
    let P : List (ℕ × Rule) → Type 0 = λ fs. AreCauses c.args.catalog.now (document_of c.args.plan) p fs c.in_ok-causes.causes.items in (
      λ none. some (c.in_ok-failures.ensures.first ∙ none),
      (
        c.in_ok-causes.causes.items,
        subst P all c.in_ok-causes.ensures.causes,
        c.in_ok-lines.ensures ∙ (ap (λ fs. grouped_lines p fs c.as_slice-3.result.now) again ∙ ap (grouped_lines p (failures_of p)) c.as_slice-3.ensures.value),
      ),
    )
