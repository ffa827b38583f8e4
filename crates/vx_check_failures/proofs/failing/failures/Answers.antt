use Rattle.std.proofs.Common.{◌∙◌, slice_get, ap}
use Rattle.vx_check_rules.specs.Tables.{tests_by, root_tests_by}
use Rattle.vx_check_rules.specs.Checked.{relations}
use Rattle.vx_plan_nodes.specs.Outline.{plan_of}
use Rattle.vx_plan_nodes.specs.TypedView.{plan, scope, resolved_of}
use Rattle.vx_check_rules.proofs.NamedKeys.{typed-keys}
use Rattle.vx_check_rules.proofs.TableFacts.{still-judges}
use Rattle.vx_check_failures.proofs.FailureFacts.{first_failure_refused}
use Rattle.vx_check_failures.proofs.failing.failures.Goals as goal

pub put_failures-requires-clause-keys : goal.put_failures-requires-clause-keys
put_failures-requires-clause-keys c = rw c.catalog-catalog.ensures (typed-keys (scope c.args.plan.now) (plan_of c.root-root.result.now) c.root-root.ensures.typed.nodes)

pub failed_at_root-own-requires-clause-keys : goal.failed_at_root-own-requires-clause-keys
failed_at_root-own-requires-clause-keys c = rw c.catalog-catalog.ensures (typed-keys (scope c.args.plan.now) (plan_of c.root-root.result.now) c.root-root.ensures.typed.nodes)

pub failed_at_root-own-requires-clause-judges : goal.failed_at_root-own-requires-clause-judges
failed_at_root-own-requires-clause-judges c = rw (c.catalog-catalog.ensures, c.root-root.ensures.plan) c.in_ok-table.ensures.judges

pub put_failures-requires-clause-judges : goal.put_failures-requires-clause-judges
put_failures-requires-clause-judges c =
    still-judges _ _ c.catalog-catalog.result.now (plan_of c.root-root.result.now) c.failed_at_root-own.ensures.stays (rw (c.catalog-catalog.ensures, c.root-root.ensures.plan) c.in_ok-table.ensures.judges)

pub returns-clause-all : goal.returns-clause-all
returns-clause-all c =
    let put = c.in_ok-put_failures.ensures.failures in
    rw (c.new-failures.ensures.items, c.failed_at_root-own.ensures.failure, c.failed_at_root-own.ensures.stays.same, c.in_ok-table.ensures.derives, c.catalog-catalog.ensures, c.root-root.ensures.plan, c.is_total.ensures) at put

pub returns-clause-first : goal.returns-clause-first
returns-clause-first c =
    let p = resolved_of c.args.plan.now in
    ap (λ fs. slice_get fs 0) (returns-clause-all c)
    ∙ first_failure_refused (tests_by p.derives (relations c.args.plan.now)) (root_tests_by p.derives (relations c.args.plan.now) p.total) (plan c.args.plan.now)
