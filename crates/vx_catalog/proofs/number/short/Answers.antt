use Rattle.std.proofs.Common.{rules, ◌∙◌, ◌<◌, ◌≤◌, arith, sym, length}
use Rattle.vx_catalog.proofs.NumberFacts.{fits_plus, more_digits, more_value, no_digit, few_before, few_done}
use Rattle.vx_catalog.proofs.number.short.Goals as goal

pub returns-then-not-is_ascii_digit : goal.returns-then-not-is_ascii_digit
returns-then-not-is_ascii_digit c = λ p. no_digit c.args.digits.now c.loop-byte.byte-index c.loop-byte-test.true (sym c.is_ascii_digit.ensures.value ∙ c.if-not-is_ascii_digit.true) p.1

pub overflow_mul-value : goal.overflow_mul-value
overflow_mul-value c =
    let few = few_before c.args.digits.now c.loop-byte.byte-index c.loop-byte-test.true c.requires c.loop-byte.invariant.digits in
    let value = c.loop-byte.invariant.value in
    omega (arith, few, value)

pub overflow_add-value : goal.overflow_add-value
overflow_add-value c =
    let few = few_before c.args.digits.now c.loop-byte.byte-index c.loop-byte-test.true c.requires c.loop-byte.invariant.digits in
    let value = c.loop-byte.invariant.value in
    let byte : c.from.result < 256 = search rules in
    omega (arith, few, value, byte)

pub loop-byte-preserved : goal.loop-byte-preserved
loop-byte-preserved c =
    let digit = sym c.is_ascii_digit.ensures.value ∙ c.if-not-is_ascii_digit.false in
    record {
      digits = more_digits c.args.digits.now c.loop-byte.byte-index c.loop-byte-test.true digit c.loop-byte.invariant.digits;
      value = more_value c.args.digits.now c.loop-byte.byte-index c.loop-byte.value c.from.result c.loop-byte-test.true digit c.loop-byte.invariant.value c.from.ensures;
    }

pub overflow_cast-result : goal.overflow_cast-result
overflow_cast-result c =
    let some : 0 < length c.args.digits.now = search rules in
    let end : length c.args.digits.now ≤ c.loop-byte.byte-index = search rules in
    let done = few_done c.args.digits.now c.loop-byte.byte-index c.loop-byte.value some c.requires end c.loop-byte.invariant.digits c.loop-byte.invariant.value in
    fits_plus c.loop-byte.value done.2

pub returns : goal.returns
returns c =
    let some : 0 < length c.args.digits.now = search rules in
    let end : length c.args.digits.now ≤ c.loop-byte.byte-index = search rules in
    let done = few_done c.args.digits.now c.loop-byte.byte-index c.loop-byte.value some c.requires end c.loop-byte.invariant.digits c.loop-byte.invariant.value in
    (done.0, done.1)
