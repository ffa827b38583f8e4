use Rattle.std.proofs.Common.{◌∙◌, ap, sym, refl, inr, not, ◌<◌, length, arith, List, [], ℕ, Err, map, take}
use Rattle.vx_plan_json.specs.Fault.{duplicate_column}
use Rattle.vx_plan.specs.Lookup.{test_distinct, tested_onto, is_among}
use Rattle.vx_plan.proofs.TestFacts.{test_bad, test_next, test_done, each-same}
use Rattle.vx_plan.proofs.SeenFacts.{seen-before, seen-more}
use Rattle.vx_plan.proofs.lookup.test_distinct_names.Goals as goal

pub returns-then-not-is_new : goal.returns-then-not-is_new
unfolding test_distinct
returns-then-not-is_new c =
    let here : c.loop-i.i < length c.args.names.now = omega arith in
    let bad = seen-before (λ (n : List ℕ). n) (λ (n : List ℕ). n) c.args.names.now c.loop-i.i c.index-names-i.result c.loop-i.seen (record { ref_ptr = (0, 0); now = c.index-names-i.result }) c.in_ok-is_new.is_new refl c.in_ok-is_new.ensures.added c.loop-i.invariant.seen ∙ ap not c.if-not-is_new.true in
    inr (ap (tested_onto is_among (duplicate_column c.args.node) []) (sym (each-same c.args.names.now))
    ∙ (sym c.loop-i.invariant.tested
    ∙ (test_bad is_among (duplicate_column c.args.node) (λ (n : List ℕ). n) c.args.names.now c.loop-i.i c.index-names-i.result here c.index-names-i.is bad
    ∙ ap (λ (n : List ℕ). Err (duplicate_column c.args.node n)) (sym c.in_ok-to_text.ensures))))

pub loop-i-preserved : goal.loop-i-preserved
loop-i-preserved c =
    let here : c.loop-i.i < length c.args.names.now = omega arith in
    let good = seen-before (λ (n : List ℕ). n) (λ (n : List ℕ). n) c.args.names.now c.loop-i.i c.index-names-i.result c.loop-i.seen (record { ref_ptr = (0, 0); now = c.index-names-i.result }) c.in_ok-is_new.is_new refl c.in_ok-is_new.ensures.added c.loop-i.invariant.seen ∙ ap not c.if-not-is_new.false in
    record {
      tested = test_next is_among (duplicate_column c.args.node) (λ (n : List ℕ). n) c.args.names.now c.loop-i.i c.index-names-i.result here c.index-names-i.is good ∙ c.loop-i.invariant.tested;
      seen = seen-more (λ (n : List ℕ). n) (λ (n : List ℕ). n) c.args.names.now c.loop-i.i c.index-names-i.result c.loop-i.seen c.insert.new.self (record { ref_ptr = (0, 0); now = c.index-names-i.result }) here c.index-names-i.is refl c.in_ok-is_new.ensures.updates c.loop-i.invariant.seen;
    }

pub returns : goal.returns
unfolding test_distinct
returns c =
    ap (tested_onto is_among (duplicate_column c.args.node) []) (sym (each-same c.args.names.now))
    ∙ (sym c.loop-i.invariant.tested
    ∙ test_done is_among (duplicate_column c.args.node) (λ (n : List ℕ). n) (map (λ (n : List ℕ). n) (take c.loop-i.i c.args.names.now)) c.args.names.now c.loop-i.i c.loop-i-test.false)
