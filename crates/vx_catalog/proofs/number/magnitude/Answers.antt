use Rattle.std.proofs.Common.{◌∙◌, sym}
use Rattle.vx_catalog.proofs.NumberFacts.{more_digits, more_value, no_digit, too_large}
use Rattle.vx_catalog.proofs.number.magnitude.Goals.{then-not-is_ascii_digit-via-then-not-is_ascii_digit, then-not-is_ascii_digit-via-else-not-is_ascii_digit+then-value-gt-MAX_FRONT}
use Rattle.vx_catalog.proofs.number.magnitude.Goals as goal

pub returns-then-not-is_ascii_digit : goal.returns-then-not-is_ascii_digit
returns-then-not-is_ascii_digit c = elim c.then-not-is_ascii_digit.branch [
  | then-not-is_ascii_digit-via-then-not-is_ascii_digit w ↦ λ p. no_digit c.args.digits.now c.loop-byte.byte-index c.loop-byte-test.true (sym c.is_ascii_digit.ensures.value ∙ w.if-not-is_ascii_digit.true) p.0.1
  | then-not-is_ascii_digit-via-else-not-is_ascii_digit+then-value-gt-MAX_FRONT w ↦ λ p. too_large c.args.digits.now c.loop-byte.byte-index c.loop-byte.value c.loop-byte-test.true c.loop-byte.invariant.value w.if-value-gt-MAX_FRONT.true p.1
]

pub loop-byte-preserved : goal.loop-byte-preserved
loop-byte-preserved c =
    let digit = sym c.is_ascii_digit.ensures.value ∙ c.if-not-is_ascii_digit.false in
    record {
      digits = more_digits c.args.digits.now c.loop-byte.byte-index c.loop-byte-test.true digit c.loop-byte.invariant.digits;
      value = more_value c.args.digits.now c.loop-byte.byte-index c.loop-byte.value c.from.result c.loop-byte-test.true digit c.loop-byte.invariant.value c.from.ensures;
    }
