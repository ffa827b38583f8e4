use Rattle.std.proofs.Common.{◌≡◌, ◌-◌, ◌+◌, ◌<◌, [], ◌∙◌, length, get_or, arith, rules, is_lt, pos, ◌∷◌}
use Rattle.std.proofs.lemmas.List.{length-map}
use Rattle.vx_rows_values.specs.Values.{num}
use Rattle.vx_rows_values.specs.Order.{compare_values}
use Rattle.vx_catalog.specs.KeyNumbers.{number_rows, number_order}
use Rattle.vx_catalog.proofs.OrderFacts.{falls_here, falls_later, falls_first}
use Rattle.vx_catalog.proofs.KeyNumberFacts.{number-falls}
use Rattle.vx_catalog.proofs.key_numbers.first_number_fall.Goals as goal

pub loop-i-init : goal.loop-i-init
loop-i-init c = falls_first (number_order c.args.falling) (number_rows c.args.numbers.now)

pub returns-then-comes_before : goal.returns-then-comes_before
returns-then-comes_before c =
    let rows = number_rows c.args.numbers.now in
    let i = c.loop-i.i in
    let near : i < length rows = omega (arith, c.loop-i-test.true, length-map c.args.numbers.now (λ z. num z ∷ [])) in
    let says : c.comes_before.result ≡ is_lt (compare_values c.args.falling (num (get_or c.args.numbers.now i (pos 0))) (num (get_or c.args.numbers.now (i - 1) (pos 0)))) = search rules in
    let falls = number-falls c.args.falling c.args.numbers.now i c.comes_before.result c.loop-i-test.true says in
    falls_here (number_order c.args.falling) rows i (get_or rows (i - 1) []) _ near (falls ∙ c.if-comes_before.true) c.loop-i.invariant

pub loop-i-preserved : goal.loop-i-preserved
loop-i-preserved c =
    let rows = number_rows c.args.numbers.now in
    let i = c.loop-i.i in
    let near : i < length rows = omega (arith, c.loop-i-test.true, length-map c.args.numbers.now (λ z. num z ∷ [])) in
    let says : c.comes_before.result ≡ is_lt (compare_values c.args.falling (num (get_or c.args.numbers.now i (pos 0))) (num (get_or c.args.numbers.now (i - 1) (pos 0)))) = search rules in
    let falls = number-falls c.args.falling c.args.numbers.now i c.comes_before.result c.loop-i-test.true says in
    let back : (i + 1) - 1 ≡ i = omega arith in
    rw back (falls_later (number_order c.args.falling) rows i (get_or rows (i - 1) []) _ near (falls ∙ c.if-comes_before.false) c.loop-i.invariant)
