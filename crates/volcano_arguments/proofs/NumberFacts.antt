-- A number of 64 bits as it is read.
use Rattle.std.proofs.Common.{◌≡◌, ◌∙◌, ℕ, ◌^◌, ◌<◌, ◌≤◌, List, Bool, true, false, Some, None, Result, Ok, Err, refl, sym, ap, arith, if◌then◌else◌}
use Rattle.std.specs.Result.{result_ok}
use Rattle.std.specs.Str.Parse.{ParsesUnsigned, digits_value, without_leading_plus}
use Rattle.clap.specs.ValueTests.{is_unsigned_in}
use Rattle.clap.specs.declared.builder.value_parser.ValueParser.TheVariants as parser
use Rattle.clap.proofs.ValueTestLemmas.{accepts-Accepts, Accepts-accepts}
use Rattle.volcano_arguments.specs.Asked.{number_of}

at_most : (n : ℕ) → n < 2 ^ 64 → n ≤ 18446744073709551615
at_most n h = omega (arith, h)

number_at : (text : List ℕ) (b : Bool) → is_unsigned_in 0 18446744073709551615 text ≡ b
    → number_of text ≡ (if b then Some (digits_value 10 (without_leading_plus text)) else None)
number_at text b is = ap (λ b. if b then Some (digits_value 10 (without_leading_plus text)) else None) is

refused : {E : Type 0} (text : List ℕ) (e : E) (b : Bool) → is_unsigned_in 0 18446744073709551615 text ≡ b → ParsesUnsigned 64 10 text (Err e) → None ≡ number_of text
refused text e true is h =
    let in_range = accepts-Accepts false (parser.Unsigned 0 18446744073709551615) text is in
    absurd (h (in_range.0, in_range.1))
refused text e false is h = sym (number_at text false is)

-- what `parse` answers
pub number_ok : {E : Type 0} (text : List ℕ) (r : Result ℕ E) → ParsesUnsigned 64 10 text r → result_ok r ≡ number_of text
number_ok text (Ok n) h =
    let n_is : n ≡ digits_value 10 (without_leading_plus text) = h.1 in
    let is = Accepts-accepts false (parser.Unsigned 0 18446744073709551615) text (h.0.0, h.0.1, omega arith, at_most (digits_value 10 (without_leading_plus text)) h.0.1) in
    ap (λ n. Some n) n_is ∙ sym (number_at text true is)
number_ok text (Err e) h = refused text e (is_unsigned_in 0 18446744073709551615 text) refl h
