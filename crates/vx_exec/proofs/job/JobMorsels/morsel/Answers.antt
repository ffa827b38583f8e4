use Rattle.std.proofs.Common.{◌≡◌, ◌∙◌, List, sym, subst}
use Rattle.std.specs.Prelude.{IfOk}
use Rattle.vx_rows_values.specs.declared.value.ColType.{ColType}
use Rattle.vx_catalog.specs.Database.{rows_at}
use Rattle.vx_plan_nodes.specs.Plan.{Plan}
use Rattle.vx_plan_nodes.specs.TypedView.{scope, plan}
use Rattle.vx_worker.specs.Morsels.{morsel_of}
use Rattle.vx_check_rules.specs.Checked.{relations}
use Rattle.vx_plan_nodes.specs.Workers.{worker_group_at}
use Rattle.vx_exec.proofs.ScanFacts.{span-at}
use Rattle.vx_exec.proofs.job.JobMorsels.morsel.Goals as goal

pub lend_morsel-requires : goal.lend_morsel-requires
lend_morsel-requires g c =
    let j = c.args.self.now in
    let k = c.in-Some-Scan.ensures.lookup in
    let p : Plan = plan j.plan.now in
    (span-at (relations j.plan.now) (scope j.plan.now) (worker_group_at j.layout.worker_groups.items) p c.spans.result.now c.in-Some-Scan.field-0.now c.in-Some-Scan.span c.args.scan
    j.plan.now.numbered j.plan.now.typed_nodes (c.spans.ensures ∙ j.laid_out) k.3.0 k.1 c.in-Some-Scan.field-0-is).there

pub returns-in-Some-Scan-clause-rows : goal.returns-in-Some-Scan-clause-rows
returns-in-Some-Scan-clause-rows g c =
    let j = c.args.self.now in
    let k = c.in-Some-Scan.ensures.lookup in
    let p : Plan = plan j.plan.now in
    let at = span-at (relations j.plan.now) (scope j.plan.now) (worker_group_at j.layout.worker_groups.items) p c.spans.result.now c.in-Some-Scan.field-0.now c.in-Some-Scan.span c.args.scan
    j.plan.now.numbered j.plan.now.typed_nodes (c.spans.ensures ∙ j.laid_out) k.3.0 k.1 c.in-Some-Scan.field-0-is in
    subst (λ r. IfOk c.lend_morsel.result (λ rows. rows.rows ≡ morsel_of j.morsel (rows_at j.database.now r) c.args.number)) (sym at.relation) c.lend_morsel.ensures.rows

pub returns-in-Some-Scan-clause-types : goal.returns-in-Some-Scan-clause-types
returns-in-Some-Scan-clause-types g c =
    let j = c.args.self.now in
    let k = c.in-Some-Scan.ensures.lookup in
    let p : Plan = plan j.plan.now in
    let at = span-at (relations j.plan.now) (scope j.plan.now) (worker_group_at j.layout.worker_groups.items) p c.spans.result.now c.in-Some-Scan.field-0.now c.in-Some-Scan.span c.args.scan
    j.plan.now.numbered j.plan.now.typed_nodes (c.spans.ensures ∙ j.laid_out) k.3.0 k.1 c.in-Some-Scan.field-0-is in
    subst (λ (types : List ColType). IfOk c.lend_morsel.result (λ rows. rows.types ≡ types)) (sym at.types) c.lend_morsel.ensures.types
