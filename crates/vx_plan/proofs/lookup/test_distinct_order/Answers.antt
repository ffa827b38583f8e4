use Rattle.std.proofs.Common.{◌∙◌, ap, sym, inr, not, ◌<◌, length, arith, List, ℕ, Err}
use Rattle.vx_catalog_json.specs.Look.{OrderText}
use Rattle.vx_plan_json.specs.Fault.{duplicate_column}
use Rattle.vx_plan.specs.Lookup.{test_distinct, is_among}
use Rattle.vx_plan.proofs.TestFacts.{test_bad, test_next}
use Rattle.vx_plan.proofs.SeenFacts.{seen-before, seen-more}
use Rattle.vx_plan.proofs.lookup.test_distinct_order.Goals as goal

abbrev name_in : OrderText → List ℕ
name_in e = e.name

pub returns-then-not-is_new : goal.returns-then-not-is_new
unfolding test_distinct
returns-then-not-is_new c =
    let here : c.loop-i.i < length c.args.order.now = omega arith in
    let bad = seen-before (λ (n : List ℕ). n) name_in c.args.order.now c.loop-i.i c.index-order-i.result c.loop-i.seen c.as_str-name.result c.in_ok-is_new.is_new (c.as_str-name.ensures.value ∙ ap name_in c.entry.view_is) c.in_ok-is_new.ensures.added c.loop-i.invariant.seen ∙ ap not c.if-not-is_new.true in
    inr (sym c.loop-i.invariant.tested
    ∙ (test_bad is_among (duplicate_column c.args.node) name_in c.args.order.now c.loop-i.i c.index-order-i.result here c.index-order-i.is bad
    ∙ ap (λ (n : List ℕ). Err (duplicate_column c.args.node n)) (sym (c.in_ok-from_str.ensures.ok ∙ (c.as_str-name.ensures.value ∙ ap name_in c.entry.view_is)))))

pub loop-i-preserved : goal.loop-i-preserved
loop-i-preserved c =
    let here : c.loop-i.i < length c.args.order.now = omega arith in
    let good = seen-before (λ (n : List ℕ). n) name_in c.args.order.now c.loop-i.i c.index-order-i.result c.loop-i.seen c.as_str-name.result c.in_ok-is_new.is_new (c.as_str-name.ensures.value ∙ ap name_in c.entry.view_is) c.in_ok-is_new.ensures.added c.loop-i.invariant.seen ∙ ap not c.if-not-is_new.false in
    record {
      tested = test_next is_among (duplicate_column c.args.node) name_in c.args.order.now c.loop-i.i c.index-order-i.result here c.index-order-i.is good ∙ c.loop-i.invariant.tested;
      seen = seen-more (λ (n : List ℕ). n) name_in c.args.order.now c.loop-i.i c.index-order-i.result c.loop-i.seen c.insert.new.self c.as_str-name.result here c.index-order-i.is (c.as_str-name.ensures.value ∙ ap name_in c.entry.view_is) c.in_ok-is_new.ensures.updates c.loop-i.invariant.seen;
    }
