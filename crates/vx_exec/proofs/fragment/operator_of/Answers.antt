use Rattle.std.specs.Prelude.{IfOk}
use Rattle.std.proofs.Common.{◌≡◌, ap, subst, sym, ◌∙◌, true, None, length}
use Rattle.vx_rows_values.specs.Order.{order_columns}
use Rattle.vx_rows.specs.View.{AreColumns}
use Rattle.vx_plan_nodes.specs.Known.{first_unknown, unary_known}
use Rattle.vx_plan_nodes.specs.Outline.{outline_of, plan_of, claim_of, unary_of, kind_of, size_of}
use Rattle.vx_plan_nodes.specs.Outputs.{HasOutputs}
use Rattle.vx_plan_nodes.specs.Plan.{size}
use Rattle.vx_plan_nodes.specs.Streams.{workers}
use Rattle.vx_plan_nodes.specs.Typed.{typed, is_unary}
use Rattle.vx_plan_nodes.specs.TypedView.{scope}
use Rattle.vx_plan_nodes.specs.Types.{types_of}
use Rattle.vx_plan_nodes.specs.Under.{unary_under, under}
use Rattle.vx_check_rules.specs.Checked.{relations}
use Rattle.vx_exec.specs.Crew.{IsOperatorOf}
use Rattle.vx_plan_nodes.specs.Workers.{worker_group_at}
use Rattle.vx_exec.proofs.Fragments.{scan-operator, consumer-made, unary-made, exchange-columns}
use Rattle.vx_exec.proofs.Parts.{operator-known, operator-typed}
use Rattle.vx_exec.proofs.fragment.operator_of.Goals as goal

pub returns-in_ok-types-in-Scan : goal.returns-in_ok-types-in-Scan
returns-in_ok-types-in-Scan g c =
    let given = g.F.PlanFunctions in
    let j = c.args.job.now in
    let types = c.in_ok-types-in-Scan.types.items in
    let typed_so : types ≡ types_of (relations j.plan.now) (plan_of c.args.node.now) = c.in_ok-types-in-Scan.ensures.items ∙ c.output_types.ensures (relations j.plan.now) c.requires.outputs in
    let h = c.in-Scan.head in
    let s = c.in-Scan.field-1 in
    subst (λ z. IsOperatorOf given j c.args.place (plan_of z) c.of.result) (sym c.in-Scan.is)
    (scan-operator given j c.args.place h.number (claim_of h.claim) s.relation s.shared (size_of s.size) c.new-scan.result c.of.result types c.of.ensures.kind c.of.ensures.stands
    (c.of.ensures.starts c.new-scan.ensures.starts)
    c.new-scan.ensures.types
    (subst (λ z. types ≡ types_of (relations j.plan.now) (plan_of z)) c.in-Scan.is typed_so))

pub returns-in_ok-types-in-Exchange : goal.returns-in_ok-types-in-Exchange
returns-in_ok-types-in-Exchange g c =
    let given = g.F.PlanFunctions in
    let j = c.args.job.now in
    let types = c.in_ok-types-in-Exchange.types.items in
    let typed_so : types ≡ types_of (relations j.plan.now) (plan_of c.args.node.now) = c.in_ok-types-in-Exchange.ensures.items ∙ c.output_types-in-Exchange.ensures (relations j.plan.now) c.requires.outputs in
    let h = c.in-Exchange.head in
    let x = c.in-Exchange.exchange in
    let made = c.consumer_operator in
    subst (λ z. IfOk made.result (IsOperatorOf given j c.args.place (plan_of z))) (sym c.in-Exchange.is)
    (consumer-made given j c.args.place h.number (claim_of h.claim) (kind_of x.kind) x.merge.items (plan_of c.in-Exchange.input.value) types c.workers-producers.result made.result
    made.ensures.op made.ensures.stands made.ensures.starts made.ensures.reads made.ensures.returns
    (c.workers-producers.ensures.value ∙ ap (λ z. workers (worker_group_at j.layout.worker_groups.items) z) c.size.ensures ∙ ap (λ z. workers (worker_group_at j.layout.worker_groups.items) (size (plan_of z))) c.deref-in-Exchange.ensures)
    (subst (λ z. types ≡ types_of (relations j.plan.now) (plan_of z)) c.in-Exchange.is typed_so))

pub consumer_operator-requires-clause-columns : goal.consumer_operator-requires-clause-columns
consumer_operator-requires-clause-columns g c =
    let given = g.F.PlanFunctions in
    let j = c.args.job.now in
    let types = c.in_ok-types-in-Exchange.types.items in
    let typed_so : types ≡ types_of (relations j.plan.now) (plan_of c.args.node.now) = c.in_ok-types-in-Exchange.ensures.items ∙ c.output_types-in-Exchange.ensures (relations j.plan.now) c.requires.outputs in
    let h = c.in-Exchange.head in
    let x = c.in-Exchange.exchange in
    subst (λ z. AreColumns (length z) (order_columns x.merge.items)) (sym (subst (λ z. types ≡ types_of (relations j.plan.now) (plan_of z)) c.in-Exchange.is typed_so))
    (exchange-columns (scope j.plan.now) h.number (claim_of h.claim) (kind_of x.kind) x.merge.items (plan_of c.in-Exchange.input.value)
    (subst (λ z. typed (scope j.plan.now) (plan_of z) ≡ true) c.in-Exchange.is c.requires.nodes_typed))

pub unary_operator-requires-clause-known : goal.unary_operator-requires-clause-known
unary_operator-requires-clause-known g c =
    let functions = g.F.PlanFunctions.functions c.args.job.now.functions in
    let catalog = relations c.args.job.now.plan.now in
    let h = c.in-Unary.head in
    let op = unary_of c.in-Unary.unary in
    let p = plan_of c.in-Unary.input.value in
    let outputs = (subst (λ z. HasOutputs catalog (outline_of z)) c.in-Unary.is c.requires.outputs).1 in
    let typed_so : c.output_types-in-Unary.result.now ≡ types_of catalog p =
    c.output_types-in-Unary.ensures catalog (subst (λ z. HasOutputs catalog (outline_of z)) (sym c.deref.ensures) outputs) ∙ ap (λ z. types_of catalog (plan_of z)) c.deref.ensures in
    subst (λ z. unary_known z (unary_under (g.F.PlanFunctions.functions c.functions.result) op) ≡ true) (sym typed_so)
    (subst (λ z. unary_known (types_of catalog p) (unary_under (g.F.PlanFunctions.functions z) op) ≡ true) (sym c.functions.ensures)
    (operator-known functions catalog h.number (claim_of h.claim) op p (subst (λ z. first_unknown catalog (under functions (plan_of z)) ≡ None) c.in-Unary.is c.requires.known)))

pub unary_operator-requires-clause-typed : goal.unary_operator-requires-clause-typed
unary_operator-requires-clause-typed g c =
    let j = c.args.job.now in
    let catalog = relations j.plan.now in
    let h = c.in-Unary.head in
    let op = unary_of c.in-Unary.unary in
    let p = plan_of c.in-Unary.input.value in
    let outputs = (subst (λ z. HasOutputs catalog (outline_of z)) c.in-Unary.is c.requires.outputs).1 in
    let typed_so : c.output_types-in-Unary.result.now ≡ types_of catalog p =
    c.output_types-in-Unary.ensures catalog (subst (λ z. HasOutputs catalog (outline_of z)) (sym c.deref.ensures) outputs) ∙ ap (λ z. types_of catalog (plan_of z)) c.deref.ensures in
    subst (λ z. is_unary z op ≡ true) (sym typed_so)
    (operator-typed (scope j.plan.now) h.number (claim_of h.claim) op p (subst (λ z. typed (scope j.plan.now) (plan_of z) ≡ true) c.in-Unary.is c.requires.nodes_typed))

pub returns-in-Unary : goal.returns-in-Unary
returns-in-Unary g c =
    let given = g.F.PlanFunctions in
    let j = c.args.job.now in
    let catalog = relations j.plan.now in
    let h = c.in-Unary.head in
    let p = plan_of c.in-Unary.input.value in
    let outputs = (subst (λ z. HasOutputs catalog (outline_of z)) c.in-Unary.is c.requires.outputs).1 in
    let typed_so : c.output_types-in-Unary.result.now ≡ types_of catalog p =
    c.output_types-in-Unary.ensures catalog (subst (λ z. HasOutputs catalog (outline_of z)) (sym c.deref.ensures) outputs) ∙ ap (λ z. types_of catalog (plan_of z)) c.deref.ensures in
    let made = c.unary_operator in
    subst (λ z. IfOk made.result (IsOperatorOf given j c.args.place (plan_of z))) (sym c.in-Unary.is)
    (unary-made given j c.args.place h.number (claim_of h.claim) (unary_of c.in-Unary.unary) p c.functions.result c.output_types-in-Unary.result.now made.result
    made.ensures.op made.ensures.stands made.ensures.starts made.ensures.reads made.ensures.returns c.functions.ensures typed_so)
