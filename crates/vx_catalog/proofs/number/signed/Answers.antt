use Rattle.std.proofs.Common.{◌∙◌, arith, refl}
use Rattle.std.proofs.lemmas.List.{take_rest}
use Rattle.vx_catalog.specs.Number.{number_of}
use Rattle.vx_catalog.proofs.NumberFacts.{with_minus, with_plus, with_none, first_is, first_is_none}
use Rattle.vx_catalog.proofs.number.signed.Goals as goal

pub returns-in_err-sign : goal.returns-in_err-sign
unfolding number_of
returns-in_err-sign c = c.from_residual.ensures ∙ rw (first_is_none c.args.field.now c.first.result c.first.ensures.value c.in_err-sign.was) refl

pub returns-in-45 : goal.returns-in-45
returns-in-45 c =
    with_minus c.args.field.now _ c.negative.result (first_is c.args.field.now c.first.result c.in_ok-sign.field-0 c.first.ensures.value c.in_ok-sign.was ∙ c.in-45.is) (take_rest c.args.field.now 1) c.negative.ensures

pub returns-in-43 : goal.returns-in-43
returns-in-43 c =
    with_plus c.args.field.now _ c.positive.result (first_is c.args.field.now c.first.result c.in_ok-sign.field-0 c.first.ensures.value c.in_ok-sign.was ∙ c.in-43.is) (take_rest c.args.field.now 1) c.positive.ensures

pub returns-in_default : goal.returns-in_default
returns-in_default c =
    let first = first_is c.args.field.now c.first.result c.in_ok-sign.field-0 c.first.ensures.value c.in_ok-sign.was in
    let no = c.in_default in
    with_none c.args.field.now c.positive-in_default.result (λ e. omega arith) (λ e. omega arith) c.positive-in_default.ensures
