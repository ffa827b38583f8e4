use Rattle.std.proofs.Common.{◌≡◌, ◌∙◌, ◌<◌, List, length, sym, refl, arith}
use Rattle.vx_rows_values.specs.declared.order.OrderEntry.{OrderEntry}
use Rattle.vx_check_rules.specs.Seen.{order_seen}
use Rattle.vx_check_options.specs.Options.{has_entry}
use Rattle.vx_check_options.proofs.OptionFacts.{narrowed-short, begin-more, begin-all}
use Rattle.vx_check_options.proofs.order_choices.may_begin.Goals as goal

pub returns-then-choices-len : goal.returns-then-choices-len
returns-then-choices-len c = narrowed-short (order_seen c.args.order) c.args.choices.now (omega (arith, c.if-choices-len.true, c.len.ensures))

pub loop-place-init : goal.loop-place-init
loop-place-init c = refl

pub returns-then-not-has_entry : goal.returns-then-not-has_entry
returns-then-not-has_entry c =
    let order : List OrderEntry = order_seen c.args.order in
    let within : c.loop-place.place < length order = omega (arith, c.loop-place-test.true, c.len-place-end.ensures) in
    let below : c.loop-place.place < length c.args.choices.now = omega (arith, c.if-choices-len.false, c.len.ensures) in
    let v = c.index-choices-place.result in
    let test : c.has_entry.result ≡ has_entry v.items c.at.result = rw c.as_slice.ensures.value at c.has_entry.ensures in
    sym (begin-more order c.args.choices.now c.loop-place.place v c.at.result _ _ within below c.index-choices-place.is c.at.ensures c.loop-place.invariant (sym c.if-not-has_entry.true ∙ test))

pub loop-place-preserved : goal.loop-place-preserved
loop-place-preserved c =
    let order : List OrderEntry = order_seen c.args.order in
    let within : c.loop-place.place < length order = omega (arith, c.loop-place-test.true, c.len-place-end.ensures) in
    let below : c.loop-place.place < length c.args.choices.now = omega (arith, c.if-choices-len.false, c.len.ensures) in
    let v = c.index-choices-place.result in
    let test : c.has_entry.result ≡ has_entry v.items c.at.result = rw c.as_slice.ensures.value at c.has_entry.ensures in
    begin-more order c.args.choices.now c.loop-place.place v c.at.result _ _ within below c.index-choices-place.is c.at.ensures c.loop-place.invariant (sym c.if-not-has_entry.false ∙ test)

pub returns : goal.returns
returns c = begin-all (order_seen c.args.order) c.args.choices.now c.loop-place.place _ (omega (arith, c.loop-place-test.false, c.len-place-end.ensures)) c.loop-place.invariant
