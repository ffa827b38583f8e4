use Rattle.std.proofs.Common.{◌≡◌, ◌+◌, ◌<◌, ap, ◌∙◌, sym, length, get_or, map, pos, arith, rules, w64}
use Rattle.std.proofs.lemmas.Int.{ints}
use Rattle.std.proofs.lemmas.List.{get_or-map, length-set, take_all}
use mir.Val.{SFits, to_z, of_z, bool_byte}
use Rattle.vx_rows_views.proofs.Counted.{not-yet, all-found, one-more, put-more}
use Rattle.vx_rows_views.proofs.places.fill_passing_at.Goals as goal

pub loop-found-preserved : goal.loop-found-preserved
loop-found-preserved g c =
    let says = g.T.NumberTest.says c.args.test.now in
    let value = g.N.Number.value in
    let place = g.P.Position.place in
    let numbers = c.args.numbers.now in
    let positions = c.args.positions.now in
    let places = c.loop-found.places in
    let i = c.loop-found.i in
    let q = c.index-positions-i.result in
    let n = c.index-numbers-place.result in
    let found = c.loop-found.invariant.0 in
    let long = c.loop-found.invariant.3 in
    let more = c.loop-found-test.true in
    let there = not-yet (λ p. says (get_or (map value numbers) (place p) (pos 0))) positions i (omega (arith, found, long, more)) in
    let at = c.place.ensures ∙ ap place c.index-positions-i.is in
    let near = c.requires.there i q there in
    let here : c.place.result < length numbers = omega (arith, at, near) in
    let fits : SFits w64 c.number-number.result = search rules in
    let same : to_z w64 (of_z w64 c.number-number.result) ≡ c.number-number.result = omega (arith, ints) in
    let number = c.number-number.ensures ∙ (ap value c.index-numbers-place.is ∙ sym (get_or-map value numbers c.place.result n (pos 0) here)) in
    let read = c.passes.ensures ∙ (ap says same ∙ (ap says number ∙ ap (λ k. says (get_or (map value numbers) k (pos 0))) at)) in (
      ap (λ k. k + bool_byte c.passes.result) found
          ∙ sym (one-more (λ p. says (get_or (map value numbers) (place p) (pos 0))) positions i q c.passes.result there read),
      omega (arith, there),
      put-more (λ p. says (get_or (map value numbers) (place p) (pos 0))) positions i q c.passes.result places c.loop-found.found there read more c.loop-found.invariant.2,
      length-set places c.loop-found.found i ∙ long,
    )

pub returns : goal.returns
returns g c =
    let says = g.T.NumberTest.says c.args.test.now in
    let value = g.N.Number.value in
    let place = g.P.Position.place in
    let numbers = c.args.numbers.now in
    let found = c.loop-found.invariant.0 in
    let long = c.loop-found.invariant.3 in
    let done = c.loop-found-test.false in
    sym (take_all c.loop-found.found c.loop-found.places done)
    ∙ (c.loop-found.invariant.2
    ∙ all-found (λ p. says (get_or (map value numbers) (place p) (pos 0))) c.args.positions.now c.loop-found.i (omega (arith, found, long, done)))
