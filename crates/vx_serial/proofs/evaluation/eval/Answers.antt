use Rattle.std.proofs.Common.{rules, ◌≡◌, ◌∙◌, sym, ap, subst, true, List, Some, None}
use Rattle.std.proofs.lemmas.Result.{IfOk-weaker}
use Rattle.vx_catalog_relations.specs.Catalog.{relation_at}
use Rattle.vx_catalog_relations.specs.Relation.{Relation}
use Rattle.vx_plan_nodes.specs.Functions.{Functions}
use Rattle.vx_plan_nodes.specs.Known.{first_unknown}
use Rattle.vx_plan_nodes.specs.Outline.{plan_of}
use Rattle.vx_plan_nodes.specs.Typed.{typed}
use Rattle.vx_plan_nodes.specs.Types.{types_of}
use Rattle.vx_plan_nodes.specs.TypedView.{scope, resolved_of}
use Rattle.vx_plan_nodes.specs.Under.{under, typed_plan_under}
use Rattle.vx_plan_nodes.proofs.UnderFacts.{types-stay, types-under}
use Rattle.vx_serial.specs.Evaluated.{first_exchange, IsFit}
use Rattle.vx_serial.proofs.Answered.{serial-rows, serial-fails}
use Rattle.vx_serial.proofs.ColumnFacts.{typed-fits}
use Rattle.vx_serial.proofs.UnderFacts.{root-under, exchange-is, is-plain, unknown-is}
use Rattle.vx_serial.proofs.evaluation.eval.Goals as goal

pub returns-in-Some-clause-refused : goal.returns-in-Some-clause-refused
returns-in-Some-clause-refused g c =
    let given : Functions = g.F.PlanFunctions.functions c.args.functions.now in
    let p = resolved_of c.args.plan.now in
    let t = c.root.result.now in
    let same : c.args.database.now.catalog ≡ p.names.catalog = search rules in
    let some : first_exchange (plan_of t) ≡ Some c.in-Some.node = search rules in
    (same, exchange-is given p t (Some c.in-Some.node) c.root.ensures.root some)

pub returns-in-Some-unknown-clause-refused : goal.returns-in-Some-unknown-clause-refused
returns-in-Some-unknown-clause-refused g c =
    let given : Functions = g.F.PlanFunctions.functions c.args.functions.now in
    let p = resolved_of c.args.plan.now in
    let db = c.args.database.now in
    let same : db.catalog ≡ p.names.catalog = search rules in
    let none : first_exchange (plan_of c.root.result.now) ≡ None = search rules in
    let some : c.in_ok-unknown.unknown ≡ Some c.in-Some-unknown.node = search rules in (
      is-plain given p c.root.result.now db c.root.ensures.root same none,
      unknown-is given p c.root-2.result.now (Some c.in-Some-unknown.node) c.root-2.ensures.root
          (sym (c.in_ok-unknown.ensures (relation_at p.names.catalog) c.root-2.ensures.outputs) ∙ some),
    )

pub eval_node-requires : goal.eval_node-requires
eval_node-requires g c =
    let given : Functions = g.F.PlanFunctions.functions c.args.functions.now in
    let s = scope c.args.plan.now in
    let root = plan_of c.root-3.result.now in
    let same : c.args.database.now.catalog ≡ s.catalog = search rules in
    let none : c.in_ok-unknown.unknown ≡ None = search rules in
    let known : first_unknown (relation_at s.catalog) (under given root) ≡ None = ap (λ p. first_unknown (relation_at s.catalog) (under given p)) (c.root-3.ensures.plan ∙ sym c.root-2.ensures.plan)
    ∙ (sym (c.in_ok-unknown.ensures (relation_at s.catalog) c.root-2.ensures.outputs) ∙ none) in
    let nodes : typed s (under given root) ≡ true = types-stay.all_nodes given s root ∙ c.root-3.ensures.typed.nodes in
    let P : List Relation → Type 0 = λ catalog. IsFit catalog (under given root) in
    subst P (sym same) (typed-fits s (under given root) nodes known)

pub returns-clause-rows : goal.returns-clause-rows
returns-clause-rows g c =
    let given : Functions = g.F.PlanFunctions.functions c.args.functions.now in
    let p = resolved_of c.args.plan.now in
    let db = c.args.database.now in
    let t = c.root-3.result.now in
    let same : db.catalog ≡ p.names.catalog = search rules in
    let none : first_exchange (plan_of c.root.result.now) ≡ None = search rules in
    let known : c.in_ok-unknown.unknown ≡ None = search rules in
    let plain = is-plain given p c.root.result.now db c.root.ensures.root same none in
    let all = unknown-is given p c.root-2.result.now None c.root-2.ensures.root (sym (c.in_ok-unknown.ensures (relation_at p.names.catalog) c.root-2.ensures.outputs) ∙ known) in
    let types =
    IfOk-weaker c.eval_node.result _ (λ r. r.types ≡ types_of (relation_at db.catalog) (under given (plan_of t)))
    (λ r e. e ∙ sym (types-under given (relation_at db.catalog) (plan_of t))) c.eval_node.ensures.types in
    serial-rows (typed_plan_under given p) db (under given (plan_of t)) c.eval_node.result plain all (sym (root-under given p t c.root-3.ensures.root)) types c.eval_node.ensures.rows

pub returns-clause-refused : goal.returns-clause-refused
returns-clause-refused g c =
    let given : Functions = g.F.PlanFunctions.functions c.args.functions.now in
    let p = resolved_of c.args.plan.now in
    let db = c.args.database.now in
    let t = c.root-3.result.now in
    let same : db.catalog ≡ p.names.catalog = search rules in
    let none : first_exchange (plan_of c.root.result.now) ≡ None = search rules in
    let known : c.in_ok-unknown.unknown ≡ None = search rules in
    let plain = is-plain given p c.root.result.now db c.root.ensures.root same none in
    let all = unknown-is given p c.root-2.result.now None c.root-2.ensures.root (sym (c.in_ok-unknown.ensures (relation_at p.names.catalog) c.root-2.ensures.outputs) ∙ known) in
    serial-fails (typed_plan_under given p) db (under given (plan_of t)) c.eval_node.result plain all (sym (root-under given p t c.root-3.ensures.root)) c.eval_node.ensures.fault
