use Rattle.std.proofs.Common.{◌≡◌, ◌<◌, pos, ◌+ℤ◌, length, sym, ◌∙◌, arith, false}
use Rattle.std.proofs.lemmas.List.{length-set, get_or_default}
use Rattle.std.proofs.lemmas.Int.{ints}
use Rattle.vx_rows.specs.Numbers.{number_at}
use Rattle.vx_rows.proofs.SpanFacts.{marks-next, marks-repeat}
use Rattle.vx_rows.proofs.spans.first_repeat.Goals as goal

pub returns-then-index-clause-some : goal.returns-then-index-clause-some
returns-then-index-clause-some c =
    let seen = c.loop-i.seen.items in
    let at = c.place-at.result in
    let near : at < length seen = omega (arith, c.loop-i.invariant.wide, c.place-at.ensures.near) in
    let there : number_at c.args.numbers.now c.loop-i.i ≡ c.args.span.low +ℤ pos at = omega (arith, ints) in
    let old = get_or_default seen at false c.index.result.now near ∙ (sym c.index.ensures ∙ c.if-index.true) in
    marks-repeat c.args.numbers.now c.args.span.low c.loop-i.i at seen old there c.loop-i.invariant.marks

pub loop-i-preserved : goal.loop-i-preserved
loop-i-preserved c =
    let seen = c.loop-i.seen.items in
    let at = c.place-at.result in
    let near : at < length seen = omega (arith, c.loop-i.invariant.wide, c.place-at.ensures.near) in
    let there : number_at c.args.numbers.now c.loop-i.i ≡ c.args.span.low +ℤ pos at = omega (arith, ints) in
    let new = get_or_default seen at false c.index.result.now near ∙ (sym c.index.ensures ∙ c.if-index.false) in
    record {
      wide = length-set seen at _ ∙ c.loop-i.invariant.wide;
      marks = marks-next c.args.numbers.now c.args.span.low c.loop-i.i at seen near new there c.loop-i.invariant.marks;
    }
