use Rattle.std.proofs.Common.{◌≡◌, ◌+◌, ap, ◌∙◌, sym, refl, length, arith, rules, w64}
use Rattle.std.proofs.lemmas.Int.{ints}
use Rattle.std.proofs.lemmas.List.{length-set, take_all}
use mir.Val.{SFits, to_z, of_z, bool_byte}
use Rattle.vx_rows_values.specs.Values.{num}
use Rattle.vx_rows_views.specs.Selected.{of_number}
use Rattle.vx_rows_views.proofs.Counted.{not-yet, all-found, one-more, put-more}
use Rattle.vx_rows_views.proofs.Passing.{places-map}
use Rattle.vx_rows_views.proofs.places.fill_passing.Goals as goal

pub loop-found-init : goal.loop-found-init
loop-found-init g c =
    let says = g.T.NumberTest.says c.args.test.now in
    let value = g.N.Number.value in
    (refl, omega arith, refl, c.requires ∙ ap length (sym (places-map (of_number says) (λ n. num (value n)) c.args.numbers.now)))

pub loop-found-preserved : goal.loop-found-preserved
loop-found-preserved g c =
    let says = g.T.NumberTest.says c.args.test.now in
    let value = g.N.Number.value in
    let numbers = c.args.numbers.now in
    let places = c.loop-found.places in
    let i = c.loop-found.i in
    let found = c.loop-found.invariant.0 in
    let long = c.loop-found.invariant.3 in
    let more = c.loop-found-test.true in
    let there = not-yet (λ n. says (value n)) numbers i (omega (arith, found, long, more)) in
    let fits : SFits w64 c.number-number.result = search rules in
    let same : to_z w64 (of_z w64 c.number-number.result) ≡ c.number-number.result = omega (arith, ints) in
    let read = c.passes.ensures ∙ (ap says same ∙ (ap says c.number-number.ensures ∙ ap (λ n. says (value n)) c.index-numbers-i.is)) in (
      ap (λ k. k + bool_byte c.passes.result) found ∙ sym (one-more (λ n. says (value n)) numbers i c.index-numbers-i.result c.passes.result there read),
      omega (arith, there),
      put-more (λ n. says (value n)) numbers i c.index-numbers-i.result c.passes.result places c.loop-found.found there read more c.loop-found.invariant.2,
      length-set places c.loop-found.found i ∙ long,
    )

pub returns : goal.returns
returns g c =
    let says = g.T.NumberTest.says c.args.test.now in
    let value = g.N.Number.value in
    let numbers = c.args.numbers.now in
    let found = c.loop-found.invariant.0 in
    let long = c.loop-found.invariant.3 in
    let done = c.loop-found-test.false in
    sym (take_all c.loop-found.found c.loop-found.places done)
    ∙ (c.loop-found.invariant.2
    ∙ (all-found (λ n. says (value n)) numbers c.loop-found.i (omega (arith, found, long, done))
    ∙ places-map (of_number says) (λ n. num (value n)) numbers))
