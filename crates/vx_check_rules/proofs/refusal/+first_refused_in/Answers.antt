use Rattle.std.proofs.Common.{rules, arith, ◌≡◌, ◌+◌, ◌<◌, ◌∙◌, ap, sym, subst, inl, inr}
use Rattle.vx_plan_nodes.specs.declared.typed.TypedNode.{TypedNode}
use Rattle.vx_plan_nodes.specs.Plan.{Plan, Binary}
use Rattle.vx_plan_nodes.specs.Numbering.{nodes}
use Rattle.vx_plan_nodes.specs.Outline.{top_of, unary_of, binary_of, kind_of, plan_of}
use Rattle.vx_check_rules.specs.declared.table.Table.{Table}
use Rattle.vx_check_rules.specs.TableView.{Judges, StaysTable}
use Rattle.vx_check_rules.proofs.RuleFacts.{not-some}
use Rattle.vx_check_rules.proofs.TableFacts.{stays-then, still-judges, judges-both, stays-under, stays-sent, stays-left, stays-right}
use Rattle.vx_check_rules.proofs.refusal.+first_refused_in.Goals as goal

-- ---- what is refused

pub returns-in-Scan-clause-refused : goal.returns-in-Scan-clause-refused
returns-in-Scan-clause-refused t c = rw c.in-Scan.is (rw c.in-Scan.is at c.refused_here.ensures.refused)

pub returns-in_default-first_refused_in-2-clause-refused : goal.returns-in_default-first_refused_in-2-clause-refused
returns-in_default-first_refused_in-2-clause-refused t c =
    let below = rw (not-some _ c.in_default-first_refused_in-2.not-Some, c.deref-in-Unary.ensures) at c.first_refused_in-in-Unary.ensures.refused in
    let here = rw c.first_refused_in-in-Unary.ensures.stays.same at c.refused_here-in-Unary.ensures.refused in
    elim c.in-Unary.is [
      | inl u ↦ rw (u.2, ← below) (rw u.2 at here)
      | inr u ↦ rw (u.2, ← below) (rw u.2 at here)
    ]

pub returns-in_default-first_refused_in-clause-refused : goal.returns-in_default-first_refused_in-clause-refused
returns-in_default-first_refused_in-clause-refused t c =
    let lefts = rw (not-some _ c.in_default.not-Some, c.deref.ensures) at c.first_refused_in.ensures.refused in
    let rights = rw (not-some _ c.in_default-first_refused_in.not-Some, c.deref-in-Binary.ensures, c.first_refused_in.ensures.stays.same) at c.first_refused_in-in-Binary.ensures.refused in
    let here = rw (c.first_refused_in-in-Binary.ensures.stays.same, c.first_refused_in.ensures.stays.same) at c.refused_here-in-Binary.ensures.refused in
    rw (c.in-Binary.is, ← lefts, ← rights) (rw c.in-Binary.is at here)

-- ---- what is still judged

pub first_refused_in-requires-in-Binary : goal.first_refused_in-requires-in-Binary
first_refused_in-requires-in-Binary t c =
    let old : Table = c.args.table.now in
    let top = top_of c.in-Binary.field-0 in
    let op : Binary = binary_of c.in-Binary.field-1 in
    let left : TypedNode = c.in-Binary.left.value in
    let right : TypedNode = c.in-Binary.right.value in
    let J : Table → TypedNode → Type 0 = λ u n. Judges c.args.catalog.now u (plan_of n) in
    let P : Table → Table → TypedNode → Type 0 = λ t u n. StaysTable t u (plan_of n) in
    let first : Table = c.first_refused_in.new.table in
    let lefts : P old first left = subst (P old first) c.deref.ensures c.first_refused_in.ensures.stays in
    let both = judges-both c.args.catalog.now old top.number top.claim op (plan_of left) (plan_of right) (subst (J old) c.in-Binary.is c.requires.judges) in
    let judged : J first c.deref-in-Binary.result.now = subst (J first) (sym c.deref-in-Binary.ensures) (lefts.judges c.args.catalog.now both.0 (plan_of right) both.1) in
    let node : Plan = plan_of c.args.node.now in
    let all : nodes node ≡ nodes (plan_of left) + nodes (plan_of right) + 1 = ap (λ n. nodes (plan_of n)) c.in-Binary.is ∙ omega arith in
    let same : nodes (plan_of c.deref-in-Binary.result.now) ≡ nodes (plan_of right) = ap (λ n. nodes (plan_of n)) c.deref-in-Binary.ensures in
    let here : nodes node ≡ t = c.decreases in
    let falls : nodes (plan_of c.deref-in-Binary.result.now) < t = omega (arith, all, same, here) in
    (falls, (judged, (search rules, search rules)))

pub refused_here-requires-in-Binary-clause-judges : goal.refused_here-requires-in-Binary-clause-judges
refused_here-requires-in-Binary-clause-judges t c =
    let old : Table = c.args.table.now in
    let top = top_of c.in-Binary.field-0 in
    let op : Binary = binary_of c.in-Binary.field-1 in
    let left : TypedNode = c.in-Binary.left.value in
    let right : TypedNode = c.in-Binary.right.value in
    let P : Table → Table → TypedNode → Type 0 = λ t u n. StaysTable t u (plan_of n) in
    let first : Table = c.first_refused_in.new.table in
    let lefts : StaysTable old first (plan_of left) = subst (P old first) c.deref.ensures c.first_refused_in.ensures.stays in
    let after_left : P old first c.args.node.now = subst (P old first) (sym c.in-Binary.is) (stays-left old first top.number top.claim op (plan_of left) (plan_of right) lefts) in
    let second : Table = c.first_refused_in-in-Binary.new.table in
    let rights : StaysTable first second (plan_of right) = subst (P first second) c.deref-in-Binary.ensures c.first_refused_in-in-Binary.ensures.stays in
    let after_right : P first second c.args.node.now = subst (P first second) (sym c.in-Binary.is) (stays-right first second top.number top.claim op (plan_of left) (plan_of right) rights) in
    let node : Plan = plan_of c.args.node.now in
    still-judges first second c.args.catalog.now node after_right (still-judges old first c.args.catalog.now node after_left c.requires.judges)

pub returns-in-Some-clause-stays : goal.returns-in-Some-clause-stays
returns-in-Some-clause-stays t c =
    let old : Table = c.args.table.now in
    let top = top_of c.in-Binary.field-0 in
    let op : Binary = binary_of c.in-Binary.field-1 in
    let left : TypedNode = c.in-Binary.left.value in
    let right : TypedNode = c.in-Binary.right.value in
    let P : Table → Table → TypedNode → Type 0 = λ t u n. StaysTable t u (plan_of n) in
    let first : Table = c.first_refused_in.new.table in
    let lefts : StaysTable old first (plan_of left) = subst (P old first) c.deref.ensures c.first_refused_in.ensures.stays in
    let after_left : P old first c.args.node.now = subst (P old first) (sym c.in-Binary.is) (stays-left old first top.number top.claim op (plan_of left) (plan_of right) lefts) in
    after_left

pub returns-in-Some-first_refused_in-clause-stays : goal.returns-in-Some-first_refused_in-clause-stays
returns-in-Some-first_refused_in-clause-stays t c =
    let old : Table = c.args.table.now in
    let top = top_of c.in-Binary.field-0 in
    let op : Binary = binary_of c.in-Binary.field-1 in
    let left : TypedNode = c.in-Binary.left.value in
    let right : TypedNode = c.in-Binary.right.value in
    let P : Table → Table → TypedNode → Type 0 = λ t u n. StaysTable t u (plan_of n) in
    let first : Table = c.first_refused_in.new.table in
    let lefts : StaysTable old first (plan_of left) = subst (P old first) c.deref.ensures c.first_refused_in.ensures.stays in
    let after_left : P old first c.args.node.now = subst (P old first) (sym c.in-Binary.is) (stays-left old first top.number top.claim op (plan_of left) (plan_of right) lefts) in
    let second : Table = c.first_refused_in-in-Binary.new.table in
    let rights : StaysTable first second (plan_of right) = subst (P first second) c.deref-in-Binary.ensures c.first_refused_in-in-Binary.ensures.stays in
    let after_right : P first second c.args.node.now = subst (P first second) (sym c.in-Binary.is) (stays-right first second top.number top.claim op (plan_of left) (plan_of right) rights) in
    stays-then old first second (plan_of c.args.node.now) after_left after_right

pub returns-in-Some-first_refused_in-2-clause-stays : goal.returns-in-Some-first_refused_in-2-clause-stays
returns-in-Some-first_refused_in-2-clause-stays t c =
    let old : Table = c.args.table.now in
    let P : Table → Table → TypedNode → Type 0 = λ t u n. StaysTable t u (plan_of n) in
    let first : Table = c.first_refused_in-in-Unary.new.table in
    let input : TypedNode = c.in-Unary.input.value in
    let below : StaysTable old first (plan_of input) = subst (P old first) c.deref-in-Unary.ensures c.first_refused_in-in-Unary.ensures.stays in
    elim c.in-Unary.is [
      | inl u ↦ subst (P old first) (sym u.2) (stays-under old first (top_of u.0).number (top_of u.0).claim (unary_of u.1) (plan_of input) below)
      | inr u ↦ subst (P old first) (sym u.2) (stays-sent old first (top_of u.0).number (top_of u.0).claim (kind_of u.1.kind) u.1.merge.items (plan_of input) below)
    ]

pub returns-in_default-first_refused_in-clause-stays : goal.returns-in_default-first_refused_in-clause-stays
returns-in_default-first_refused_in-clause-stays t c =
    let old : Table = c.args.table.now in
    let top = top_of c.in-Binary.field-0 in
    let op : Binary = binary_of c.in-Binary.field-1 in
    let left : TypedNode = c.in-Binary.left.value in
    let right : TypedNode = c.in-Binary.right.value in
    let P : Table → Table → TypedNode → Type 0 = λ t u n. StaysTable t u (plan_of n) in
    let first : Table = c.first_refused_in.new.table in
    let lefts : StaysTable old first (plan_of left) = subst (P old first) c.deref.ensures c.first_refused_in.ensures.stays in
    let after_left : P old first c.args.node.now = subst (P old first) (sym c.in-Binary.is) (stays-left old first top.number top.claim op (plan_of left) (plan_of right) lefts) in
    let second : Table = c.first_refused_in-in-Binary.new.table in
    let rights : StaysTable first second (plan_of right) = subst (P first second) c.deref-in-Binary.ensures c.first_refused_in-in-Binary.ensures.stays in
    let after_right : P first second c.args.node.now = subst (P first second) (sym c.in-Binary.is) (stays-right first second top.number top.claim op (plan_of left) (plan_of right) rights) in
    let here = c.refused_here-in-Binary.ensures.stays in
    let node : Plan = plan_of c.args.node.now in
    stays-then old second c.refused_here-in-Binary.new.table node (stays-then old first second node after_left after_right) here

pub returns-in_default-first_refused_in-2-clause-stays : goal.returns-in_default-first_refused_in-2-clause-stays
returns-in_default-first_refused_in-2-clause-stays t c =
    let old : Table = c.args.table.now in
    let P : Table → Table → TypedNode → Type 0 = λ t u n. StaysTable t u (plan_of n) in
    let first : Table = c.first_refused_in-in-Unary.new.table in
    let input : TypedNode = c.in-Unary.input.value in
    let below : StaysTable old first (plan_of input) = subst (P old first) c.deref-in-Unary.ensures c.first_refused_in-in-Unary.ensures.stays in
    let after_input : P old first c.args.node.now = elim c.in-Unary.is [
      | inl u ↦ subst (P old first) (sym u.2) (stays-under old first (top_of u.0).number (top_of u.0).claim (unary_of u.1) (plan_of input) below)
      | inr u ↦ subst (P old first) (sym u.2) (stays-sent old first (top_of u.0).number (top_of u.0).claim (kind_of u.1.kind) u.1.merge.items (plan_of input) below)
    ] in
    stays-then old first c.refused_here-in-Unary.new.table (plan_of c.args.node.now) after_input c.refused_here-in-Unary.ensures.stays
