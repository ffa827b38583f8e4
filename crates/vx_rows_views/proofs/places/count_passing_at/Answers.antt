use Rattle.std.proofs.Common.{◌≡◌, ◌+◌, ◌<◌, ap, ◌∙◌, sym, length, get_or, map, pos, arith, rules, w64}
use Rattle.std.proofs.lemmas.Int.{ints}
use Rattle.std.proofs.lemmas.List.{get_or-map}
use mir.Val.{SFits, to_z, of_z, bool_byte}
use Rattle.vx_rows_views.proofs.Counted.{bit-few, one-more}
use Rattle.vx_rows_views.proofs.places.count_passing_at.Goals as goal

pub loop-i-preserved : goal.loop-i-preserved
loop-i-preserved g c =
    let says = g.T.NumberTest.says c.args.test.now in
    let value = g.N.Number.value in
    let place = g.P.Position.place in
    let numbers = c.args.numbers.now in
    let q = c.index-positions-i.result in
    let n = c.index-numbers-place.result in
    let at = c.place.ensures ∙ ap place c.index-positions-i.is in
    let near = c.requires c.loop-i.i q c.loop-i-test.true in
    let here : c.place.result < length numbers = omega (arith, at, near) in
    let fits : SFits w64 c.number-number.result = search rules in
    let same : to_z w64 (of_z w64 c.number-number.result) ≡ c.number-number.result = omega (arith, ints) in
    let number = c.number-number.ensures ∙ (ap value c.index-numbers-place.is ∙ sym (get_or-map value numbers c.place.result n (pos 0) here)) in
    let read = c.passes.ensures ∙ (ap says same ∙ (ap says number ∙ ap (λ k. says (get_or (map value numbers) k (pos 0))) at)) in
    let few = bit-few c.passes.result in
    let small = c.loop-i.invariant.1 in (
      ap (λ k. k + bool_byte c.passes.result) c.loop-i.invariant.0
          ∙ sym (one-more (λ p. says (get_or (map value numbers) (place p) (pos 0))) c.args.positions.now c.loop-i.i q c.passes.result c.loop-i-test.true read),
      omega (arith, few, small),
    )
