use Rattle.std.specs.Prelude.{OnOk}
use Rattle.std.proofs.Common.{◌≡◌, ◌<◌, ◌+◌, ◌∙◌, ◌++◌, ℕ, List, map, ap, arith, sym, subst}
use Rattle.vx_rows_values.specs.Values.{Row}
use Rattle.vx_rows.specs.Lists.{each_below}
use Rattle.vx_plan_nodes.specs.Numbering.{nodes}
use Rattle.vx_plan_nodes.specs.Outline.{outline_of, plan_of, top_of, unary_of, renamed_of, binary_of, kind_of}
use Rattle.vx_plan_nodes.specs.Plan.{Plan, size}
use Rattle.vx_plan_nodes.specs.Streams.{workers}
use Rattle.vx_plan_nodes.specs.Under.{under}
use Rattle.vx_plan_nodes.proofs.UnderFacts.{size-under}
use Rattle.vx_plan_nodes.specs.declared.typed.TypedNode.{TypedNode}
use Rattle.vx_exec_steps.specs.Crews.{producer_duty, duties_below}
use Rattle.vx_exec.specs.Crew.{duty}
use Rattle.vx_exec.specs.Job.{model_of}
use Rattle.vx_exec.specs.Part.{IsPartOf}
use Rattle.vx_exec.proofs.Each.{both-added}
use Rattle.vx_exec.proofs.Parts.{unary-part, left-part, right-part, exchange-part}
use Rattle.vx_exec.proofs.crew.+add_below.Goals as goal

pub returns-in-Unary-clause-duties : goal.returns-in-Unary-clause-duties
returns-in-Unary-clause-duties g t c =
    let given = g.F.PlanFunctions in
    let functions = given.functions c.args.job.now.functions in
    let Adds : TypedNode → Type 0 = λ z. OnOk c.add_below.result ((hash : List ℕ → Row → ℕ → ℕ)
    → map (duty given) c.add_below.new.crew.items ≡ map (duty given) c.args.crew.now.items ++ duties_below (model_of hash c.args.job.now) (under functions (plan_of z))) in
    subst Adds (sym c.in-Unary.is) (subst Adds c.deref.ensures c.add_below.ensures.duties)

pub returns-in-Binary-clause-duties : goal.returns-in-Binary-clause-duties
returns-in-Binary-clause-duties g t c = λ hash.
    let given = g.F.PlanFunctions in
    let functions = given.functions c.args.job.now.functions in
    let S = model_of hash c.args.job.now in
    let old = map (duty given) c.args.crew.now.items in
    let mid = map (duty given) c.add_below-in-Binary.new.crew.items in
    let new = map (duty given) c.add_below-in-Binary-2.new.crew.items in
    let p = under functions (plan_of c.in-Binary.left.value) in
    let q = under functions (plan_of c.in-Binary.right.value) in
    subst (λ z. new ≡ old ++ duties_below S (under functions (plan_of z))) (sym c.in-Binary.is)
    (both-added old mid new (duties_below S p) (duties_below S q)
    (subst (λ z. mid ≡ old ++ duties_below S (under functions (plan_of z))) c.deref-in-Binary.ensures (c.in_ok-add_below-in-Binary.ensures.duties hash))
    (subst (λ z. new ≡ mid ++ duties_below S (under functions (plan_of z))) c.deref-in-Binary-2.ensures (c.in_ok-add_below-in-Binary-2.ensures.duties hash)))

pub returns-in-Exchange-clause-duties : goal.returns-in-Exchange-clause-duties
returns-in-Exchange-clause-duties g t c = λ hash.
    let given = g.F.PlanFunctions in
    let functions = given.functions c.args.job.now.functions in
    let S = model_of hash c.args.job.now in
    let old = map (duty given) c.args.crew.now.items in
    let mid = map (duty given) c.add_producers.new.crew.items in
    let new = map (duty given) c.add_below-in-Exchange.new.crew.items in
    let n = c.in-Exchange.head.number in
    let k = kind_of c.in-Exchange.exchange.kind in
    let p = under functions (plan_of c.in-Exchange.input.value) in
    subst (λ z. new ≡ old ++ duties_below S (under functions (plan_of z))) (sym c.in-Exchange.is)
    (both-added old mid new (each_below (workers S.sizes (size p)) (producer_duty S n k p)) (duties_below S p)
    (subst (λ z. mid ≡ old ++ each_below (workers S.sizes z) (producer_duty S n k p)) (sym (size-under functions (plan_of c.in-Exchange.input.value)))
    (subst (λ z. mid ≡ old ++ each_below (workers S.sizes (size (plan_of z))) (producer_duty S n k (under functions (plan_of z)))) c.deref-in-Exchange.ensures
    (c.in_ok-add_producers-in-Exchange.ensures.duties hash)))
    (subst (λ z. new ≡ mid ++ duties_below S (under functions (plan_of z))) c.deref-in-Exchange-2.ensures (c.in_ok-add_below-in-Exchange.ensures.duties hash)))

pub add_below-requires : goal.add_below-requires
add_below-requires g t c =
    let given = g.F.PlanFunctions in
    let j = c.args.job.now in
    let node : Plan = plan_of c.args.node.now in
    let all : nodes node ≡ nodes (plan_of c.in-Unary.input.value) + 1 = ap (λ n. nodes (plan_of n)) c.in-Unary.is ∙ omega arith in
    let same : nodes (plan_of c.deref.result.now) ≡ nodes (plan_of c.in-Unary.input.value) = ap (λ n. nodes (plan_of n)) c.deref.ensures in
    let here : nodes node ≡ t = c.decreases in
    let falls : nodes (plan_of c.deref.result.now) < t = omega (arith, all, same, here) in
    let part : IsPartOf given j (outline_of c.deref.result.now) =
    subst (λ z. IsPartOf given j (outline_of z)) (sym c.deref.ensures)
    (unary-part given j (top_of c.in-Unary.field-0) (unary_of c.in-Unary.field-1) (renamed_of c.in-Unary.field-1) (outline_of c.in-Unary.input.value)
    (subst (λ z. IsPartOf given j (outline_of z)) c.in-Unary.is c.requires.part)) in
    λ κs outlives. (falls, (outlives, (part, c.requires.new)))

pub add_below-requires-in-Binary : goal.add_below-requires-in-Binary
add_below-requires-in-Binary g t c =
    let given = g.F.PlanFunctions in
    let j = c.args.job.now in
    let node : Plan = plan_of c.args.node.now in
    let all : nodes node ≡ nodes (plan_of c.in-Binary.left.value) + nodes (plan_of c.in-Binary.right.value) + 1 = ap (λ n. nodes (plan_of n)) c.in-Binary.is ∙ omega arith in
    let same : nodes (plan_of c.deref-in-Binary.result.now) ≡ nodes (plan_of c.in-Binary.left.value) = ap (λ n. nodes (plan_of n)) c.deref-in-Binary.ensures in
    let here : nodes node ≡ t = c.decreases in
    let falls : nodes (plan_of c.deref-in-Binary.result.now) < t = omega (arith, all, same, here) in
    let part : IsPartOf given j (outline_of c.deref-in-Binary.result.now) =
    subst (λ z. IsPartOf given j (outline_of z)) (sym c.deref-in-Binary.ensures)
    (left-part given j (top_of c.in-Binary.field-0) (binary_of c.in-Binary.field-1) (outline_of c.in-Binary.left.value) (outline_of c.in-Binary.right.value)
    (subst (λ z. IsPartOf given j (outline_of z)) c.in-Binary.is c.requires.part)) in
    λ κs outlives. (falls, (outlives, (part, c.requires.new)))

pub add_below-requires-in-Binary-2 : goal.add_below-requires-in-Binary-2
add_below-requires-in-Binary-2 g t c =
    let given = g.F.PlanFunctions in
    let j = c.args.job.now in
    let node : Plan = plan_of c.args.node.now in
    let all : nodes node ≡ nodes (plan_of c.in-Binary.left.value) + nodes (plan_of c.in-Binary.right.value) + 1 = ap (λ n. nodes (plan_of n)) c.in-Binary.is ∙ omega arith in
    let same : nodes (plan_of c.deref-in-Binary-2.result.now) ≡ nodes (plan_of c.in-Binary.right.value) = ap (λ n. nodes (plan_of n)) c.deref-in-Binary-2.ensures in
    let here : nodes node ≡ t = c.decreases in
    let falls : nodes (plan_of c.deref-in-Binary-2.result.now) < t = omega (arith, all, same, here) in
    let part : IsPartOf given j (outline_of c.deref-in-Binary-2.result.now) =
    subst (λ z. IsPartOf given j (outline_of z)) (sym c.deref-in-Binary-2.ensures)
    (right-part given j (top_of c.in-Binary.field-0) (binary_of c.in-Binary.field-1) (outline_of c.in-Binary.left.value) (outline_of c.in-Binary.right.value)
    (subst (λ z. IsPartOf given j (outline_of z)) c.in-Binary.is c.requires.part)) in
    λ κs outlives. (falls, (outlives, (part, c.in_ok-add_below-in-Binary.ensures.new)))

pub add_producers-requires-clause-part : goal.add_producers-requires-clause-part
add_producers-requires-clause-part g t c =
    let given = g.F.PlanFunctions in
    let j = c.args.job.now in
    let x = c.in-Exchange.exchange in
    subst (λ z. IsPartOf given j (outline_of z)) (sym c.deref-in-Exchange.ensures)
    (exchange-part given j (top_of c.in-Exchange.head) (kind_of x.kind) x.merge.items (outline_of c.in-Exchange.input.value)
    (subst (λ z. IsPartOf given j (outline_of z)) c.in-Exchange.is c.requires.part))

pub add_below-requires-in-Exchange : goal.add_below-requires-in-Exchange
add_below-requires-in-Exchange g t c =
    let given = g.F.PlanFunctions in
    let j = c.args.job.now in
    let x = c.in-Exchange.exchange in
    let node : Plan = plan_of c.args.node.now in
    let all : nodes node ≡ nodes (plan_of c.in-Exchange.input.value) + 1 = ap (λ n. nodes (plan_of n)) c.in-Exchange.is ∙ omega arith in
    let same : nodes (plan_of c.deref-in-Exchange-2.result.now) ≡ nodes (plan_of c.in-Exchange.input.value) = ap (λ n. nodes (plan_of n)) c.deref-in-Exchange-2.ensures in
    let here : nodes node ≡ t = c.decreases in
    let falls : nodes (plan_of c.deref-in-Exchange-2.result.now) < t = omega (arith, all, same, here) in
    let part : IsPartOf given j (outline_of c.deref-in-Exchange-2.result.now) =
    subst (λ z. IsPartOf given j (outline_of z)) (sym c.deref-in-Exchange-2.ensures)
    (exchange-part given j (top_of c.in-Exchange.head) (kind_of x.kind) x.merge.items (outline_of c.in-Exchange.input.value)
    (subst (λ z. IsPartOf given j (outline_of z)) c.in-Exchange.is c.requires.part)) in
    λ κs outlives. (falls, (outlives, (part, c.in_ok-add_producers-in-Exchange.ensures.new)))
