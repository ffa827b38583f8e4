use Rattle.std.proofs.Common.{◌≡◌, ◌∙◌, List, length, sym, ap, subst}
use Rattle.std.proofs.lemmas.Result.{IfOk-weaker}
use Rattle.vx_rows_values.proofs.Booleans.{and-left, and-right}
use Rattle.vx_catalog_relations.specs.Relation.{Relation}
use Rattle.vx_catalog_relations.specs.Catalog.{relation_at, all_below}
use Rattle.vx_plan_nodes.specs.declared.typed.TypedNode.{TypedNode}
use Rattle.vx_plan_nodes.specs.Plan.{Part, Unary, Binary}
use Rattle.vx_plan_nodes.specs.Outline.{part_of, top_of, unary_of, binary_of, plan_of}
use Rattle.vx_plan_nodes.specs.Types.{width, part_columns}
use Rattle.vx_plan_nodes.specs.Describe.{Copying, described, DescribedBoth, described_both}
use Rattle.vx_plan_nodes.specs.DescribeView.{copying_of, described_both_of}
use Rattle.vx_plan_facts.specs.Equal.{equal_at}
use Rattle.vx_check_rules.proofs.WidthFacts.{types_of-width}
use Rattle.vx_check_shown.specs.ShownPart.{part_carried, part_of_both, part_over}
use Rattle.vx_check_shown.specs.PartView.{IsCopied, AreBothCopied, AreInputParts}
use Rattle.vx_check_shown.proofs.PartSteps.{unary-copied, both-copied}
use Rattle.vx_check_shown.proofs.parts.part_over.Goals as goal

pub part_carried-requires : goal.part_carried-requires
part_carried-requires c =
    let catalog : List Relation = c.requires.0 in
    let h = subst (λ (t : TypedNode). AreInputParts catalog c.args.known.now t (part_of c.args.left.now) (part_of c.args.right.now)) c.in-Unary.is c.requires.1 in
    let top = top_of c.in-Unary.field-0 in
    let op : Unary = unary_of c.in-Unary.operator in
    let wide = c.width-outputs.ensures ∙ (c.facts_of.ensures (relation_at catalog) c.requires.1.known.known).wide ∙ ap (λ t. width (relation_at catalog) (plan_of t)) c.in-Unary.is in
    let P : TypedNode → Type 0 = λ t. IsCopied (relation_at catalog) c.args.known.now (plan_of t) c.width-outputs.result (copying_of c.described.result.copying) (part_of c.args.left.now) in
    let Q : Part → Type 0 = λ x. IsCopied (relation_at catalog) c.args.known.now (plan_of c.with_part.result.node.now) c.width-outputs.result (copying_of c.described.result.copying) x in (
      relation_at catalog,
      subst Q (sym (ap part_of c.with_part.ensures.part)) (subst P (sym (c.with_part.ensures.node ∙ c.deref.ensures))
          (unary-copied catalog c.args.known.now top.number top.claim op (plan_of c.in-Unary.input.value) (part_of c.args.left.now) c.width-outputs.result (copying_of c.described.result.copying) h.known h.named wide
          (ap (λ d. d.copying) c.described.ensures))),
    )

pub part_of_both-requires : goal.part_of_both-requires
part_of_both-requires c =
    let catalog : List Relation = c.requires.0 in
    let at = relation_at catalog in
    let known = c.args.known.now in
    let x = part_of c.args.left.now in
    let y = part_of c.args.right.now in
    let h = subst (λ (t : TypedNode). AreInputParts catalog known t x y) c.in-Binary.is c.requires.1 in
    let top = top_of c.in-Binary.field-0 in
    let op : Binary = binary_of c.in-Binary.operator in
    let left : TypedNode = c.in-Binary.first.value in
    let right : TypedNode = c.in-Binary.second.value in
    let w = c.width-outputs.result in
    let d = described_both_of c.described-described.result in
    let wide = c.width-outputs.ensures ∙ (c.facts_of.ensures at c.requires.1.known.known).wide ∙ ap (λ t. width at (plan_of t)) c.in-Binary.is in
    let types = rw c.deref-in-Binary.ensures at (c.output_types.ensures at) in
    let there : length c.output_types.result.now ≡ width at (plan_of left) = ap length (types h.outputs.1) ∙ types_of-width at (plan_of left) in
    let is : d ≡ described_both (width at (plan_of left)) op = c.described-described.ensures ∙ ap (λ v. described_both v op) there in
    let l = and-left (all_below (width at (plan_of left)) (part_columns x)) (all_below (width at (plan_of right)) (part_columns y)) h.named in
    let m = and-right (all_below (width at (plan_of left)) (part_columns x)) (all_below (width at (plan_of right)) (part_columns y)) h.named in
    let both = both-copied catalog known top.number top.claim (plan_of left) (plan_of right) x y op w d h.known l m wide is in
    let P : TypedNode → Type 0 = λ t. AreBothCopied at known (plan_of t) (plan_of right) w d x y in
    let Q : TypedNode → Type 0 = λ t. AreBothCopied at known (plan_of c.with_part-lefts.result.node.now) (plan_of t) w d x y in
    let R : Part → Type 0 = λ z. AreBothCopied at known (plan_of c.with_part-lefts.result.node.now) (plan_of c.with_part-rights.result.node.now) w d z y in
    let S : Part → Type 0 = λ z. AreBothCopied at known (plan_of c.with_part-lefts.result.node.now) (plan_of c.with_part-rights.result.node.now) w d (part_of c.with_part-lefts.result.part.now) z in (
      at,
      subst S (sym (ap part_of c.with_part-rights.ensures.part)) (subst R (sym (ap part_of c.with_part-lefts.ensures.part))
          (subst Q (sym (c.with_part-rights.ensures.node ∙ c.deref-in-Binary-3.ensures)) (subst P (sym (c.with_part-lefts.ensures.node ∙ c.deref-in-Binary-2.ensures)) both))),
    )

pub returns-in-Unary : goal.returns-in-Unary
returns-in-Unary c = λ catalog given.
    let at = relation_at catalog in
    let known = c.args.known.now in
    let x = part_of c.args.left.now in
    let h = subst (λ (t : TypedNode). AreInputParts catalog known t x (part_of c.args.right.now)) c.in-Unary.is given in
    let top = top_of c.in-Unary.field-0 in
    let op : Unary = unary_of c.in-Unary.operator in
    let input : TypedNode = c.in-Unary.input.value in
    let w = c.width-outputs.result in
    let k = copying_of c.described.result.copying in
    let wide = c.width-outputs.ensures ∙ (c.facts_of.ensures at given.known.known).wide ∙ ap (λ t. width at (plan_of t)) c.in-Unary.is in
    let copies : k ≡ (described op).copying = ap (λ d. d.copying) c.described.ensures in
    let node : c.with_part.result.node.now ≡ input = c.with_part.ensures.node ∙ c.deref.ensures in
    let part : part_of c.with_part.result.part.now ≡ x = ap part_of c.with_part.ensures.part in
    let P : TypedNode → Type 0 = λ t. IsCopied at known (plan_of t) w k x in
    let Q : Part → Type 0 = λ z. IsCopied at known (plan_of c.with_part.result.node.now) w k z in
    let copied = subst Q (sym part) (subst P (sym node) (unary-copied catalog known top.number top.claim op (plan_of input) x w k h.known h.named wide copies)) in
    let step = ap (λ t. part_carried w k (equal_at at (plan_of t)) (part_of c.with_part.result.part.now)) node
    ∙ ap (part_carried w k (equal_at at (plan_of input))) part
    ∙ ap (λ (l : Copying). part_carried w l (equal_at at (plan_of input)) x) copies
    ∙ ap (λ v. part_carried v (described op).copying (equal_at at (plan_of input)) x) wide
    ∙ ap (λ t. part_over at (plan_of t) x (part_of c.args.right.now)) (sym c.in-Unary.is) in
    IfOk-weaker c.part_carried.result _ _ (λ r s. s ∙ step) (c.part_carried.ensures at copied)

pub returns-in-Binary : goal.returns-in-Binary
returns-in-Binary c = λ catalog given.
    let at = relation_at catalog in
    let known = c.args.known.now in
    let x = part_of c.args.left.now in
    let y = part_of c.args.right.now in
    let h = subst (λ (t : TypedNode). AreInputParts catalog known t x y) c.in-Binary.is given in
    let top = top_of c.in-Binary.field-0 in
    let op : Binary = binary_of c.in-Binary.operator in
    let left : TypedNode = c.in-Binary.first.value in
    let right : TypedNode = c.in-Binary.second.value in
    let w = c.width-outputs.result in
    let d = described_both_of c.described-described.result in
    let wide = c.width-outputs.ensures ∙ (c.facts_of.ensures at given.known.known).wide ∙ ap (λ t. width at (plan_of t)) c.in-Binary.is in
    let types = rw c.deref-in-Binary.ensures at (c.output_types.ensures at) in
    let there : length c.output_types.result.now ≡ width at (plan_of left) = ap length (types h.outputs.1) ∙ types_of-width at (plan_of left) in
    let is : d ≡ described_both (width at (plan_of left)) op = c.described-described.ensures ∙ ap (λ v. described_both v op) there in
    let l = and-left (all_below (width at (plan_of left)) (part_columns x)) (all_below (width at (plan_of right)) (part_columns y)) h.named in
    let m = and-right (all_below (width at (plan_of left)) (part_columns x)) (all_below (width at (plan_of right)) (part_columns y)) h.named in
    let both = both-copied catalog known top.number top.claim (plan_of left) (plan_of right) x y op w d h.known l m wide is in
    let first : c.with_part-lefts.result.node.now ≡ left = c.with_part-lefts.ensures.node ∙ c.deref-in-Binary-2.ensures in
    let second : c.with_part-rights.result.node.now ≡ right = c.with_part-rights.ensures.node ∙ c.deref-in-Binary-3.ensures in
    let xs : part_of c.with_part-lefts.result.part.now ≡ x = ap part_of c.with_part-lefts.ensures.part in
    let ys : part_of c.with_part-rights.result.part.now ≡ y = ap part_of c.with_part-rights.ensures.part in
    let P : TypedNode → Type 0 = λ t. AreBothCopied at known (plan_of t) (plan_of right) w d x y in
    let Q : TypedNode → Type 0 = λ t. AreBothCopied at known (plan_of c.with_part-lefts.result.node.now) (plan_of t) w d x y in
    let R : Part → Type 0 = λ z. AreBothCopied at known (plan_of c.with_part-lefts.result.node.now) (plan_of c.with_part-rights.result.node.now) w d z y in
    let S : Part → Type 0 = λ z. AreBothCopied at known (plan_of c.with_part-lefts.result.node.now) (plan_of c.with_part-rights.result.node.now) w d (part_of c.with_part-lefts.result.part.now) z in
    let copied = subst S (sym ys) (subst R (sym xs) (subst Q (sym second) (subst P (sym first) both))) in
    let e = equal_at at (plan_of left) in
    let f = equal_at at (plan_of right) in
    let step = ap (λ t. part_of_both w d.meeting d (equal_at at (plan_of t)) (equal_at at (plan_of c.with_part-rights.result.node.now)) (part_of c.with_part-lefts.result.part.now) (part_of c.with_part-rights.result.part.now)) first
    ∙ ap (λ t. part_of_both w d.meeting d e (equal_at at (plan_of t)) (part_of c.with_part-lefts.result.part.now) (part_of c.with_part-rights.result.part.now)) second
    ∙ ap (λ (z : Part). part_of_both w d.meeting d e f z (part_of c.with_part-rights.result.part.now)) xs
    ∙ ap (λ (z : Part). part_of_both w d.meeting d e f x z) ys
    ∙ ap (λ (i : DescribedBoth). part_of_both w i.meeting i e f x y) is
    ∙ ap (λ v. part_of_both v (described_both (width at (plan_of left)) op).meeting (described_both (width at (plan_of left)) op) e f x y) wide
    ∙ ap (λ t. part_over at (plan_of t) x y) (sym c.in-Binary.is) in
    IfOk-weaker c.part_of_both.result _ _ (λ r s. s ∙ step) (c.part_of_both.ensures at copied)
