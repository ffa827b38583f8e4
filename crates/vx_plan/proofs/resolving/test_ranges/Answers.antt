use Rattle.std.proofs.Common.{◌≡◌, ◌∙◌, ap, sym, inr, not, ◌||◌, true, false, ◌<◌, length, map, take, arith, List, ℕ, Err}
use Rattle.vx_rows_values.specs.ValueView.{val_of}
use Rattle.vx_rows_values.specs.Ranges.{RangeForm, range_form}
use Rattle.vx_plan_nodes.specs.Typed.{is_range}
use Rattle.vx_plan_json.specs.Fault.{bad_range}
use Rattle.vx_plan.specs.Resolve.{test_ranges, is_bad_range}
use Rattle.vx_plan.proofs.TestFacts.{test_bad, test_next}
use Rattle.vx_plan.proofs.SeenFacts.{seen-before, seen-more}
use Rattle.vx_plan.proofs.resolving.test_ranges.Goals as goal
use Rattle.vx_plan.proofs.resolving.test_ranges.Goals.{then-not-is_new-via-then-not-is_new, then-not-is_new-via-else-not-is_new+then-not-is_range}

pub returns-then-not-is_new : goal.returns-then-not-is_new
unfolding test_ranges
returns-then-not-is_new c =
    let here : c.loop-i.i < length c.args.ranges.now = omega arith in
    let range = c.index-ranges-i.result in
    let before = seen-before (λ (r : RangeForm). r.name) range_form c.args.ranges.now c.loop-i.i range c.loop-i.seen c.as_str.result c.in_ok-is_new.is_new c.as_str.ensures.value c.in_ok-is_new.ensures.added c.loop-i.invariant.seen in
    let bad : is_bad_range (map range_form (take c.loop-i.i c.args.ranges.now)) (range_form range) ≡ true =
    elim c.then-not-is_new.branch [
      | then-not-is_new-via-then-not-is_new w ↦ ap (λ b. b || not (is_range (range_form range).bounds)) (before ∙ ap not w.if-not-is_new.true)
      | then-not-is_new-via-else-not-is_new+then-not-is_range w ↦
          let unfit : is_range (range_form range).bounds ≡ false = sym (w.is_range.ensures ∙ ap (λ bs. is_range (map val_of bs)) w.as_slice.ensures.value) ∙ w.if-not-is_range.true in
          λ j. (before ∙ ap not w.if-not-is_new.false) j || not (unfit j)
    ] in
    inr (sym c.loop-i.invariant.tested
    ∙ (test_bad is_bad_range (λ (r : RangeForm). bad_range r.name) range_form c.args.ranges.now c.loop-i.i range here c.index-ranges-i.is bad
    ∙ ap (λ (n : List ℕ). Err (bad_range n)) (sym (c.in_ok-from_str.ensures.ok ∙ c.as_str-then-not-is_new.ensures.value))))

pub loop-i-preserved : goal.loop-i-preserved
loop-i-preserved c =
    let here : c.loop-i.i < length c.args.ranges.now = omega arith in
    let range = c.index-ranges-i.result in
    let before = seen-before (λ (r : RangeForm). r.name) range_form c.args.ranges.now c.loop-i.i range c.loop-i.seen c.as_str.result c.in_ok-is_new.is_new c.as_str.ensures.value c.in_ok-is_new.ensures.added c.loop-i.invariant.seen in
    let fits : is_range (range_form range).bounds ≡ true = sym (c.is_range.ensures ∙ ap (λ bs. is_range (map val_of bs)) c.as_slice.ensures.value) ∙ c.if-not-is_range.false in
    let good : is_bad_range (map range_form (take c.loop-i.i c.args.ranges.now)) (range_form range) ≡ false = λ j. (before ∙ ap not c.if-not-is_new.false) j || not (fits j) in
    record {
      tested = test_next is_bad_range (λ (r : RangeForm). bad_range r.name) range_form c.args.ranges.now c.loop-i.i range here c.index-ranges-i.is good ∙ c.loop-i.invariant.tested;
      seen = seen-more (λ (r : RangeForm). r.name) range_form c.args.ranges.now c.loop-i.i range c.loop-i.seen c.insert.new.self c.as_str.result here c.index-ranges-i.is c.as_str.ensures.value c.in_ok-is_new.ensures.updates c.loop-i.invariant.seen;
    }
