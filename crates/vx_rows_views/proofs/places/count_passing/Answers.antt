use Rattle.std.proofs.Common.{◌≡◌, ◌+◌, ap, ◌∙◌, sym, length, arith, rules, w64}
use Rattle.std.proofs.lemmas.Int.{ints}
use Rattle.std.proofs.lemmas.List.{take_all}
use mir.Val.{SFits, to_z, of_z, bool_byte}
use Rattle.vx_rows_values.specs.Values.{num}
use Rattle.vx_rows_views.specs.Selected.{of_number, places_of}
use Rattle.vx_rows_views.proofs.Counted.{bit-few, one-more}
use Rattle.vx_rows_views.proofs.Passing.{places-map}
use Rattle.vx_rows_views.proofs.places.count_passing.Goals as goal

pub loop-i-preserved : goal.loop-i-preserved
loop-i-preserved g c =
    let says = g.T.NumberTest.says c.args.test.now in
    let value = g.N.Number.value in
    let fits : SFits w64 c.number-number.result = search rules in
    let same : to_z w64 (of_z w64 c.number-number.result) ≡ c.number-number.result = omega (arith, ints) in
    let read = c.passes.ensures ∙ (ap says same ∙ (ap says c.number-number.ensures ∙ ap (λ n. says (value n)) c.index-numbers-i.is)) in
    let few = bit-few c.passes.result in
    let small = c.loop-i.invariant.1 in (
      ap (λ k. k + bool_byte c.passes.result) c.loop-i.invariant.0
          ∙ sym (one-more (λ n. says (value n)) c.args.numbers.now c.loop-i.i c.index-numbers-i.result c.passes.result c.loop-i-test.true read),
      omega (arith, few, small),
    )

pub returns : goal.returns
returns g c =
    let says = g.T.NumberTest.says c.args.test.now in
    let value = g.N.Number.value in
    c.loop-i.invariant.0
    ∙ (ap (λ ns. length (places_of (λ n. says (value n)) ns)) (take_all c.loop-i.i c.args.numbers.now c.loop-i-test.false)
    ∙ ap length (places-map (of_number says) (λ n. num (value n)) c.args.numbers.now))
