use Rattle.std.proofs.Common.{◌≡◌, ◌+◌, arith, ◌∙◌, ap, length, map}
use Rattle.std.proofs.lemmas.List.{length-map}
use Rattle.std.proofs.lemmas.Result.{IfOk-weaker}
use Rattle.vx_plan_nodes.specs.Describe.{source}
use Rattle.vx_plan_nodes.specs.Outline.{unary_of, aggregate_of}
use Rattle.vx_plan_facts.specs.FactsView.{facts_of}
use Rattle.vx_plan_facts.specs.Labels.{source_within}
use Rattle.vx_plan_facts.proofs.NamedColumns.{distinct-within, group-within, distinct-after, group-after}
use Rattle.vx_plan_facts.proofs.operators.after_unary.Goals as goal

pub carried-requires : goal.carried-requires
carried-requires c d =
    let w = length c.args.below.now.firsts.items in
    ap (λ k. source_within w (source k d)) (ap (λ x. x.copying) c.described.ensures) ∙ distinct-within w (unary_of c.args.operator.now) _ (ap unary_of c.in-Distinct.is) c.requires d

pub carried-requires-in-Group : goal.carried-requires-in-Group
carried-requires-in-Group c d =
    let w = length c.args.below.now.firsts.items in
    ap (λ k. source_within w (source k d)) (ap (λ x. x.copying) c.described.ensures) ∙ group-within w (unary_of c.args.operator.now) _ _ _ (ap unary_of c.in-Group.is) c.requires d

pub returns-in-Select : goal.returns-in-Select
returns-in-Select c = rw c.in-Select.is (rw c.as_slice.ensures.value at c.selected.ensures)

pub returns-in-Project : goal.returns-in-Project
returns-in-Project c = rw c.in-Project.is (rw c.as_slice-in-Project.ensures.value at c.projected.ensures)

pub returns-in-Distinct : goal.returns-in-Distinct
returns-in-Distinct c =
    let op = unary_of c.args.operator.now in
    let copied = ap (λ x. x.copying) c.described.ensures in
    let under = facts_of c.args.below.now in
    let kept = c.in-Distinct.kept in
    let wide : c.len.result ≡ length (map (λ k. k.column) kept.items) = simp length-map (omega (arith, c.len.ensures, kept.ok.0)) in
    IfOk-weaker c.carried.result _ _ (λ k h. distinct-after op _ c.len.result under (facts_of k) (ap unary_of c.in-Distinct.is) wide (rw copied at h)) c.carried.ensures

pub returns-in-Group : goal.returns-in-Group
returns-in-Group c =
    let op = unary_of c.args.operator.now in
    let copied = ap (λ x. x.copying) c.described.ensures in
    let under = facts_of c.args.below.now in
    let by = c.in-Group.by in
    let aggregates = c.in-Group.aggregates in
    let wide : c.len-in-Group.result + c.len-in-Group-2.result ≡ length by.items + length (map aggregate_of aggregates.items) = simp length-map (omega (arith, c.len-in-Group.ensures, c.len-in-Group-2.ensures, by.ok.0, aggregates.ok.0)) in
    IfOk-weaker c.carried-in-Group.result _ _ (λ k h. group-after op _ _ _ _ under (facts_of k) (ap unary_of c.in-Group.is) wide (rw copied at h)) c.carried-in-Group.ensures
