use Rattle.std.proofs.Common.{◌∙◌, ◌++◌, List, Vec, Global, map, sym, refl, arith}
use Rattle.std.proofs.lemmas.List.{append-nil, at_drop_all}
use Rattle.vx_rows_values.specs.declared.order.OrderEntry.{OrderEntry}
use Rattle.vx_plan_nodes.specs.DescribeView.{copying_of}
use Rattle.vx_check_options.specs.Options.{places_up}
use Rattle.vx_check_options.proofs.OptionFacts.{some-length, none-length}
use Rattle.vx_check_options.proofs.LoopLists.{up-done, up-more}
use Rattle.vx_check_options.proofs.order_choices.choices_up.Goals as goal

pub returns-then-is_empty : goal.returns-then-is_empty
returns-then-is_empty c =
    let copies = c.in_ok-copies.copies in
    let none = none-length copies.items _ _ (omega (arith, copies.ok.0)) c.is_empty.ensures c.if-is_empty.true in
    up-done (copying_of c.args.copying) c.args.choices.now c.loop-place.place-index c.place-item.result copies.items _ _ c.loop-place-test.true c.place-item.is (rw c.as_slice.ensures.value at c.in_ok-copies.ensures) none c.loop-place.invariant

pub loop-place-preserved : goal.loop-place-preserved
loop-place-preserved c =
    let copies = c.in_ok-copies.copies in
    let some = some-length copies.items _ _ (omega (arith, copies.ok.0)) c.is_empty.ensures c.if-is_empty.false in
    rw c.in_ok-push.ensures.items
    (up-more (copying_of c.args.copying) c.args.choices.now c.loop-place.place-index c.place-item.result copies _ _ c.loop-place-test.true c.place-item.is (rw c.as_slice.ensures.value at c.in_ok-copies.ensures) some c.loop-place.invariant)

pub loop-place-init : goal.loop-place-init
loop-place-init c = rw c.new-found.ensures.items refl

pub returns : goal.returns
returns c =
    let items = map (λ (v : Vec OrderEntry Global). v.items) in
    let before : List (List OrderEntry) = items c.loop-place.found.items in
    let all : List (Vec OrderEntry Global) → List (List OrderEntry) = λ us. before ++ places_up (copying_of c.args.copying) (items us) in
    sym (c.loop-place.invariant ∙ at_drop_all all c.args.choices.now c.loop-place.place-index (omega (arith, c.loop-place-test.false)) ∙ append-nil before)
