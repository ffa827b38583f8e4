use Rattle.std.proofs.Common.{rules, arith, ◌≡◌, ◌+◌, ◌<◌, ◌∙◌, ◌++◌, Bool, List, ap, append_assoc, map, inl, inr, sym, subst}
use Rattle.vx_catalog_relations.specs.Catalog.{relation_at}
use Rattle.vx_plan_nodes.specs.declared.typed.TypedNode.{TypedNode}
use Rattle.vx_plan_nodes.specs.Plan.{Plan, Binary}
use Rattle.vx_plan_nodes.specs.Numbering.{nodes}
use Rattle.vx_plan_nodes.specs.Outline.{top_of, unary_of, binary_of, kind_of, plan_of}
use Rattle.vx_check_rules.specs.declared.table.Table.{Table}
use Rattle.vx_check_rules.specs.Refusal.{Rule}
use Rattle.vx_check_rules.specs.Tables.{tests_by}
use Rattle.vx_check_rules.specs.TableView.{derives, Judges, StaysTable}
use Rattle.vx_check_rules.proofs.TableFacts.{stays-then, stays-under, stays-sent, stays-left, stays-right}
use Rattle.vx_check_failures.specs.Failures.{failures_in}
use Rattle.vx_check_failures.specs.FailureView.{failure_is}
use Rattle.vx_check_failures.proofs.FailureFacts.{put_then, below-own, on-ok, still-beside}
use Rattle.vx_check_failures.proofs.failing.+put_failures.Goals as goal

-- ---- the failures

pub returns-in_ok-put_failures-in-Unary-clause-failures : goal.returns-in_ok-put_failures-in-Unary-clause-failures
returns-in_ok-put_failures-in-Unary-clause-failures t c =
    let tests : Plan → List (Bool × Rule) = tests_by (derives c.args.table.now) (relation_at c.args.catalog.now) in
    let below : Plan = plan_of c.in-Unary.input.value in
    let own = rw c.deref-in-Unary.ensures at c.failed_at-below-in-Unary.ensures.failure in
    let put = rw (c.deref-in-Unary-2.ensures, c.failed_at-below-in-Unary.ensures.stays.same) at c.in_ok-put_failures-in-Unary.ensures.failures in
    let here = put_then c.put-in-Unary.result _ _ _ (failures_in tests below) _ c.put-in-Unary.ensures (below-own tests below _ _ _ put own) in
    elim c.in-Unary.is [
      | inl u ↦ rw u.2 here
      | inr u ↦ rw u.2 here
    ]

pub returns-in_ok-put_failures-in-Binary-2-clause-failures : goal.returns-in_ok-put_failures-in-Binary-2-clause-failures
returns-in_ok-put_failures-in-Binary-2-clause-failures t c =
    let tests : Plan → List (Bool × Rule) = tests_by (derives c.args.table.now) (relation_at c.args.catalog.now) in
    let left : Plan = plan_of c.in-Binary.left.value in
    let right : Plan = plan_of c.in-Binary.right.value in
    let first = c.failed_at-below.ensures.stays.same in
    let second = c.in_ok-put_failures-in-Binary.ensures.stays.same ∙ first in
    let third = c.failed_at-beside.ensures.stays.same ∙ second in
    let lefts = below-own tests left _ _ _ (rw (c.deref-in-Binary.ensures, first) at c.in_ok-put_failures-in-Binary.ensures.failures) (rw c.deref.ensures at c.failed_at-below.ensures.failure) in
    let rights = below-own tests right _ _ _ (rw (c.deref-in-Binary-3.ensures, third) at c.in_ok-put_failures-in-Binary-2.ensures.failures) (rw (c.deref-in-Binary-2.ensures, second) at c.failed_at-beside.ensures.failure) in
    let both = rights ∙ ap (λ fs. fs ++ failures_in tests right) lefts ∙ append_assoc (map failure_is c.args.failures.now.items) (failures_in tests left) (failures_in tests right) in
    rw c.in-Binary.is (put_then c.put-in-Binary.result _ _ _ (failures_in tests left ++ failures_in tests right) _ c.put-in-Binary.ensures both)

-- ---- what is still judged

pub failed_at-beside-requires-clause-judges : goal.failed_at-beside-requires-clause-judges
failed_at-beside-requires-clause-judges t c =
    let old : Table = c.args.table.now in
    let top = top_of c.in-Binary.field-0 in
    let left : TypedNode = c.in-Binary.left.value in
    let right : TypedNode = c.in-Binary.right.value in
    let J : Table → TypedNode → Type 0 = λ u n. Judges c.args.catalog.now u (plan_of n) in
    let P : Table → Table → TypedNode → Type 0 = λ u v n. StaysTable u v (plan_of n) in
    let first : Table = c.failed_at-below.new.table in
    let second : Table = c.put_failures.new.table in
    subst (J second) (sym c.deref-in-Binary-2.ensures) (still-beside c.args.catalog.now old first second top.number top.claim (binary_of c.in-Binary.field-1) (plan_of left) (plan_of right)
    (subst (J old) c.in-Binary.is c.requires.judges) (subst (P old first) c.deref.ensures c.failed_at-below.ensures.stays)
    (subst (P first second) c.deref-in-Binary.ensures c.in_ok-put_failures-in-Binary.ensures.stays))

pub put_failures-requires-in-Binary : goal.put_failures-requires-in-Binary
put_failures-requires-in-Binary t c =
    let old : Table = c.args.table.now in
    let top = top_of c.in-Binary.field-0 in
    let left : TypedNode = c.in-Binary.left.value in
    let right : TypedNode = c.in-Binary.right.value in
    let J : Table → TypedNode → Type 0 = λ u n. Judges c.args.catalog.now u (plan_of n) in
    let P : Table → Table → TypedNode → Type 0 = λ u v n. StaysTable u v (plan_of n) in
    let first : Table = c.failed_at-below.new.table in
    let second : Table = c.put_failures.new.table in
    let third : Table = c.failed_at-beside.new.table in
    let before : J second right = still-beside c.args.catalog.now old first second top.number top.claim (binary_of c.in-Binary.field-1) (plan_of left) (plan_of right)
    (subst (J old) c.in-Binary.is c.requires.judges) (subst (P old first) c.deref.ensures c.failed_at-below.ensures.stays)
    (subst (P first second) c.deref-in-Binary.ensures c.in_ok-put_failures-in-Binary.ensures.stays) in
    let stays : P second third right = subst (P second third) c.deref-in-Binary-2.ensures c.failed_at-beside.ensures.stays in
    let judged : J third c.deref-in-Binary-3.result.now = subst (J third) (sym c.deref-in-Binary-3.ensures) (stays.judges c.args.catalog.now before (plan_of right) before) in
    let node : Plan = plan_of c.args.node.now in
    let all : nodes node ≡ nodes (plan_of left) + nodes (plan_of right) + 1 = ap (λ n. nodes (plan_of n)) c.in-Binary.is ∙ omega arith in
    let same : nodes (plan_of c.deref-in-Binary-3.result.now) ≡ nodes (plan_of right) = ap (λ n. nodes (plan_of n)) c.deref-in-Binary-3.ensures in
    let here : nodes node ≡ t = c.decreases in
    let falls : nodes (plan_of c.deref-in-Binary-3.result.now) < t = omega (arith, all, same, here) in
    (falls, (judged, (search rules, search rules)))

pub returns-in_ok-put_failures-in-Unary-clause-stays : goal.returns-in_ok-put_failures-in-Unary-clause-stays
returns-in_ok-put_failures-in-Unary-clause-stays t c =
    let old : Table = c.args.table.now in
    let P : Table → Table → TypedNode → Type 0 = λ t u n. StaysTable t u (plan_of n) in
    let first : Table = c.failed_at-below-in-Unary.new.table in
    let second : Table = c.put_failures-in-Unary.new.table in
    let input : TypedNode = c.in-Unary.input.value in
    let own : StaysTable old first (plan_of input) = subst (P old first) c.deref-in-Unary.ensures c.failed_at-below-in-Unary.ensures.stays in
    let below : StaysTable first second (plan_of input) = subst (P first second) c.deref-in-Unary-2.ensures c.in_ok-put_failures-in-Unary.ensures.stays in
    let both : StaysTable old second (plan_of input) = stays-then old first second (plan_of input) own below in
    let here : P old second c.args.node.now = elim c.in-Unary.is [
      | inl u ↦ subst (P old second) (sym u.2) (stays-under old second (top_of u.0).number (top_of u.0).claim (unary_of u.1) (plan_of input) both)
      | inr u ↦ subst (P old second) (sym u.2) (stays-sent old second (top_of u.0).number (top_of u.0).claim (kind_of u.1.kind) u.1.merge.items (plan_of input) both)
    ] in
    on-ok c.put-in-Unary.result _ here

pub returns-in_ok-put_failures-in-Binary-2-clause-stays : goal.returns-in_ok-put_failures-in-Binary-2-clause-stays
returns-in_ok-put_failures-in-Binary-2-clause-stays t c =
    let old : Table = c.args.table.now in
    let top = top_of c.in-Binary.field-0 in
    let op : Binary = binary_of c.in-Binary.field-1 in
    let left : TypedNode = c.in-Binary.left.value in
    let right : TypedNode = c.in-Binary.right.value in
    let P : Table → Table → TypedNode → Type 0 = λ t u n. StaysTable t u (plan_of n) in
    let first : Table = c.failed_at-below.new.table in
    let second : Table = c.put_failures.new.table in
    let third : Table = c.failed_at-beside.new.table in
    let fourth : Table = c.put_failures-in-Binary.new.table in
    let lefts : StaysTable old second (plan_of left) =
    stays-then old first second (plan_of left) (subst (P old first) c.deref.ensures c.failed_at-below.ensures.stays) (subst (P first second) c.deref-in-Binary.ensures c.in_ok-put_failures-in-Binary.ensures.stays) in
    let rights : StaysTable second fourth (plan_of right) =
    stays-then second third fourth (plan_of right) (subst (P second third) c.deref-in-Binary-2.ensures c.failed_at-beside.ensures.stays)
    (subst (P third fourth) c.deref-in-Binary-3.ensures c.in_ok-put_failures-in-Binary-2.ensures.stays) in
    let after_left : P old second c.args.node.now = subst (P old second) (sym c.in-Binary.is) (stays-left old second top.number top.claim op (plan_of left) (plan_of right) lefts) in
    let after_right : P second fourth c.args.node.now = subst (P second fourth) (sym c.in-Binary.is) (stays-right second fourth top.number top.claim op (plan_of left) (plan_of right) rights) in
    on-ok c.put-in-Binary.result _ (stays-then old second fourth (plan_of c.args.node.now) after_left after_right)
