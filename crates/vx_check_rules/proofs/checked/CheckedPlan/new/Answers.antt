use Rattle.vx_plan_nodes.specs.TypedView.{plan, resolved_of}
use Rattle.vx_check_rules.specs.Checked.{relations}
use Rattle.vx_check_rules.proofs.Refusals.{refusal-decides-by}
use Rattle.vx_check_rules.proofs.checked.CheckedPlan.new.Goals as goal

pub invariant_of-result : goal.invariant_of-result
invariant_of-result c =
    let p = c.args.plan in
    let decided = (refusal-decides-by (resolved_of p).derives (relations p) (resolved_of p).total (plan p)).0 c.requires in
    record { every_node = decided.0; root = decided.1 }
