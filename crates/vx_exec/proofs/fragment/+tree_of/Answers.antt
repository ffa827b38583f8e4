use Rattle.std.proofs.Common.{◌≡◌, ◌<◌, ◌+◌, ◌∙◌, ap, arith, subst, sym}
use Rattle.vx_plan_nodes.specs.Numbering.{nodes}
use Rattle.vx_plan_nodes.specs.Outline.{top_of, outline_of, plan_of, claim_of, unary_of, renamed_of, binary_of, kind_of, size_of}
use Rattle.vx_plan_nodes.specs.Plan.{Plan}
use Rattle.vx_worker.specs.declared.tree.Tree.{Leaf, One, Two}
use Rattle.vx_exec.specs.Crew.{IsOperatorOf, IsTreeOf}
use Rattle.vx_exec.specs.Part.{IsPartOf}
use Rattle.vx_exec.proofs.Parts.{unary-part, left-part, right-part}
use Rattle.vx_exec.proofs.Fragments.{scan-tree, exchange-tree, unary-tree, binary-tree}
use Rattle.vx_exec.proofs.fragment.+tree_of.Goals as goal

pub returns-in-Scan : goal.returns-in-Scan
returns-in-Scan g t c =
    let given = g.F.PlanFunctions in
    let j = c.args.job.now in
    let o = c.in_ok-operator.operator in
    let h = c.in-Scan.head in
    let s = c.in-Scan.field-1 in
    subst (λ z. IsTreeOf given j c.args.place (plan_of z) (Leaf h.number o)) (sym c.in-Scan.is)
    (scan-tree given j c.args.place h.number (claim_of h.claim) s.relation s.shared (size_of s.size) o
    (subst (λ z. IsOperatorOf given j c.args.place (plan_of z) o) c.in-Scan.is c.in_ok-operator.ensures))

pub returns-in-Exchange : goal.returns-in-Exchange
returns-in-Exchange g t c =
    let given = g.F.PlanFunctions in
    let j = c.args.job.now in
    let o = c.in_ok-operator.operator in
    let h = c.in-Exchange.head in
    let x = c.in-Exchange.field-1 in
    subst (λ z. IsTreeOf given j c.args.place (plan_of z) (Leaf h.number o)) (sym c.in-Exchange.is)
    (exchange-tree given j c.args.place h.number (claim_of h.claim) (kind_of x.kind) x.merge.items (plan_of c.in-Exchange.field-2.value) o
    (subst (λ z. IsOperatorOf given j c.args.place (plan_of z) o) c.in-Exchange.is c.in_ok-operator.ensures))

pub returns-in_ok-new-in-Unary : goal.returns-in_ok-new-in-Unary
returns-in_ok-new-in-Unary g t c =
    let given = g.F.PlanFunctions in
    let j = c.args.job.now in
    let o = c.in_ok-operator.operator in
    let h = c.in-Unary.field-0 in
    let p = plan_of c.in-Unary.input.value in
    let b = c.in_ok-new-in-Unary.field-0 in
    subst (λ z. IsTreeOf given j c.args.place (plan_of z) (One o b)) (sym c.in-Unary.is)
    (unary-tree given j c.args.place h.number (claim_of h.claim) (unary_of c.in-Unary.field-1) p o b
    (subst (λ z. IsOperatorOf given j c.args.place (plan_of z) o) c.in-Unary.is c.in_ok-operator.ensures)
    (subst (λ z. IsTreeOf given j c.args.place p z) (sym c.in_ok-new-in-Unary.ensures.ok)
    (subst (λ z. IsTreeOf given j c.args.place (plan_of z) c.in_ok-below-in-Unary.below) c.deref.ensures c.in_ok-below-in-Unary.ensures)))

pub returns-in_ok-right-in-Binary : goal.returns-in_ok-right-in-Binary
returns-in_ok-right-in-Binary g t c =
    let given = g.F.PlanFunctions in
    let j = c.args.job.now in
    let o = c.in_ok-operator.operator in
    let h = c.in-Binary.field-0 in
    let p = plan_of c.in-Binary.left.value in
    let q = plan_of c.in-Binary.right.value in
    let a = c.in_ok-left-in-Binary.left in
    let b = c.in_ok-right-in-Binary.right in
    subst (λ z. IsTreeOf given j c.args.place (plan_of z) (Two o a b)) (sym c.in-Binary.is)
    (binary-tree given j c.args.place h.number (claim_of h.claim) (binary_of c.in-Binary.field-1) p q o a b
    (subst (λ z. IsOperatorOf given j c.args.place (plan_of z) o) c.in-Binary.is c.in_ok-operator.ensures)
    (subst (λ z. IsTreeOf given j c.args.place p z) (sym c.in_ok-left-in-Binary.ensures.ok)
    (subst (λ z. IsTreeOf given j c.args.place (plan_of z) c.in_ok-tree_of-in-Binary.field-0) c.deref-in-Binary.ensures c.in_ok-tree_of-in-Binary.ensures))
    (subst (λ z. IsTreeOf given j c.args.place q z) (sym c.in_ok-right-in-Binary.ensures.ok)
    (subst (λ z. IsTreeOf given j c.args.place (plan_of z) c.in_ok-tree_of-in-Binary-2.field-0) c.deref-in-Binary-2.ensures c.in_ok-tree_of-in-Binary-2.ensures)))

pub tree_of-requires : goal.tree_of-requires
tree_of-requires g t c =
    let given = g.F.PlanFunctions in
    let j = c.args.job.now in
    let node : Plan = plan_of c.args.node.now in
    let all : nodes node ≡ nodes (plan_of c.in-Unary.input.value) + 1 = ap (λ n. nodes (plan_of n)) c.in-Unary.is ∙ omega arith in
    let same : nodes (plan_of c.deref.result.now) ≡ nodes (plan_of c.in-Unary.input.value) = ap (λ n. nodes (plan_of n)) c.deref.ensures in
    let here : nodes node ≡ t = c.decreases in
    let falls : nodes (plan_of c.deref.result.now) < t = omega (arith, all, same, here) in
    let part : IsPartOf given j (outline_of c.deref.result.now) =
    subst (λ z. IsPartOf given j (outline_of z)) (sym c.deref.ensures)
    (unary-part given j (top_of c.in-Unary.field-0) (unary_of c.in-Unary.field-1) (renamed_of c.in-Unary.field-1) (outline_of c.in-Unary.input.value)
    (subst (λ z. IsPartOf given j (outline_of z)) c.in-Unary.is c.requires)) in
    λ κs outlives. (falls, (outlives, part))

pub tree_of-requires-in-Binary : goal.tree_of-requires-in-Binary
tree_of-requires-in-Binary g t c =
    let given = g.F.PlanFunctions in
    let j = c.args.job.now in
    let node : Plan = plan_of c.args.node.now in
    let all : nodes node ≡ nodes (plan_of c.in-Binary.left.value) + nodes (plan_of c.in-Binary.right.value) + 1 = ap (λ n. nodes (plan_of n)) c.in-Binary.is ∙ omega arith in
    let same : nodes (plan_of c.deref-in-Binary.result.now) ≡ nodes (plan_of c.in-Binary.left.value) = ap (λ n. nodes (plan_of n)) c.deref-in-Binary.ensures in
    let here : nodes node ≡ t = c.decreases in
    let falls : nodes (plan_of c.deref-in-Binary.result.now) < t = omega (arith, all, same, here) in
    let part : IsPartOf given j (outline_of c.deref-in-Binary.result.now) =
    subst (λ z. IsPartOf given j (outline_of z)) (sym c.deref-in-Binary.ensures)
    (left-part given j (top_of c.in-Binary.field-0) (binary_of c.in-Binary.field-1) (outline_of c.in-Binary.left.value) (outline_of c.in-Binary.right.value)
    (subst (λ z. IsPartOf given j (outline_of z)) c.in-Binary.is c.requires)) in
    λ κs outlives. (falls, (outlives, part))

pub tree_of-requires-in-Binary-2 : goal.tree_of-requires-in-Binary-2
tree_of-requires-in-Binary-2 g t c =
    let given = g.F.PlanFunctions in
    let j = c.args.job.now in
    let node : Plan = plan_of c.args.node.now in
    let all : nodes node ≡ nodes (plan_of c.in-Binary.left.value) + nodes (plan_of c.in-Binary.right.value) + 1 = ap (λ n. nodes (plan_of n)) c.in-Binary.is ∙ omega arith in
    let same : nodes (plan_of c.deref-in-Binary-2.result.now) ≡ nodes (plan_of c.in-Binary.right.value) = ap (λ n. nodes (plan_of n)) c.deref-in-Binary-2.ensures in
    let here : nodes node ≡ t = c.decreases in
    let falls : nodes (plan_of c.deref-in-Binary-2.result.now) < t = omega (arith, all, same, here) in
    let part : IsPartOf given j (outline_of c.deref-in-Binary-2.result.now) =
    subst (λ z. IsPartOf given j (outline_of z)) (sym c.deref-in-Binary-2.ensures)
    (right-part given j (top_of c.in-Binary.field-0) (binary_of c.in-Binary.field-1) (outline_of c.in-Binary.left.value) (outline_of c.in-Binary.right.value)
    (subst (λ z. IsPartOf given j (outline_of z)) c.in-Binary.is c.requires)) in
    λ κs outlives. (falls, (outlives, part))
