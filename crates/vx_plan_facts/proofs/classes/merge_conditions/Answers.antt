use Rattle.std.proofs.Common.{◌≡◌, ◌∙◌, ◌-◌, ◌<◌, ℕ, ap, sym, map, length, get_or, arith}
use Rattle.std.proofs.lemmas.List.{get_or-map, length-map}
use Rattle.vx_plan_nodes.specs.Outline.{filter_of}
use Rattle.vx_plan_facts.specs.Naming.{filter_within}
use Rattle.vx_plan_facts.proofs.ClassFacts.{all-at, conditions-next}
use Rattle.vx_plan_facts.proofs.classes.merge_conditions.Goals as goal

pub merge_filter-requires-clause-within : goal.merge_filter-requires-clause-within
merge_filter-requires-clause-within c =
    let fs = c.args.filters.now in
    let x = c.index-filters-filters.result in
    let i : ℕ = length fs - 1 - c.loop-done.done in
    let h : i < length fs = omega (arith, c.loop-done-test.true) in
    let is : filter_of x ≡ get_or (map filter_of fs) i (filter_of x) = ap filter_of c.index-filters-filters.is ∙ sym (get_or-map filter_of fs i x (filter_of x) h) in
    let wide = length-map fs filter_of in
    ap (λ w. filter_within w (filter_of x)) c.loop-done.invariant.wide ∙ ap (filter_within (length c.args.firsts.now.items)) is
    ∙ all-at (filter_within (length c.args.firsts.now.items)) (map filter_of fs) i (filter_of x) (omega (arith, wide, h)) c.requires.within

pub loop-done-preserved : goal.loop-done-preserved
loop-done-preserved c =
    let fs = c.args.filters.now in
    let x = c.index-filters-filters.result in
    let i : ℕ = length fs - 1 - c.loop-done.done in
    let h : i < length fs = omega (arith, c.loop-done-test.true) in
    let is : filter_of x ≡ get_or (map filter_of fs) i (filter_of x) = ap filter_of c.index-filters-filters.is ∙ sym (get_or-map filter_of fs i x (filter_of x) h) in
    record {
      wide = c.merge_filter.ensures.wide ∙ c.loop-done.invariant.wide;
      named = c.merge_filter.ensures.named;
      equal = λ e tells. conditions-next (map filter_of fs) (length fs) c.loop-done.done (filter_of x) e _ _ (sym (length-map fs filter_of)) c.loop-done-test.true is c.merge_filter.ensures.equal (c.loop-done.invariant.equal e tells);
    }
