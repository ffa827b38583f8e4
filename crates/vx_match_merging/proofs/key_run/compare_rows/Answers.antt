use Rattle.std.proofs.Common.{◌∙◌, ◌+◌, ◌<◌, sym, arith, length, drop}
use Rattle.std.specs.Ordering.{ordering_then}
use Rattle.vx_rows.specs.View.{row}
use Rattle.vx_rows.proofs.OrderFacts.{column-there}
use Rattle.vx_match_merging.specs.Keys.{directions, key_of, key_cmp}
use Rattle.vx_match_merging.proofs.KeyOrder.{alike-long, key-step, key-end, first-decides}
use Rattle.vx_match_merging.proofs.key_run.compare_rows.Goals as goal

pub cell-requires-clause-column : goal.cell-requires-clause-column
cell-requires-clause-column c = column-there _ c.args.a_order.now c.loop-place.place _ c.requires.a_columns (let test = c.loop-place-test.true in omega (arith, test))

pub cell-requires-in-loop-place-clause-column : goal.cell-requires-in-loop-place-clause-column
cell-requires-in-loop-place-clause-column c =
    let test = c.loop-place-test.true in
    let long = alike-long c.args.a_order.now c.args.b_order.now c.requires.alike in
    column-there _ c.args.b_order.now c.loop-place.place _ c.requires.b_columns (omega (arith, test, long))

pub returns-in_default : goal.returns-in_default
returns-in_default c =
    let one = c.args.a_order.now in
    let two = c.args.b_order.now in
    let at = c.loop-place.place in
    let test = c.loop-place-test.true in
    let long = alike-long one two c.requires.alike in
    let near : at < length one = omega (arith, test) in
    let there : at < length two = omega (arith, test, long) in
    let rest = key_cmp (directions (drop (at + 1) one)) (key_of (drop (at + 1) one) (row c.args.a.now c.args.i)) (key_of (drop (at + 1) two) (row c.args.b.now c.args.j)) in
    let step = key-step one two (row c.args.a.now c.args.i) (row c.args.b.now c.args.j) at _ _ c.compare.result _ _ near there c.compare.ensures c.cell.ensures c.cell-in-loop-place.ensures in
    sym (c.loop-place.invariant ∙ (step ∙ first-decides c.compare.result rest c.in_default.not-Equal))

pub loop-place-preserved : goal.loop-place-preserved
loop-place-preserved c =
    let one = c.args.a_order.now in
    let two = c.args.b_order.now in
    let at = c.loop-place.place in
    let test = c.loop-place-test.true in
    let long = alike-long one two c.requires.alike in
    let near : at < length one = omega (arith, test) in
    let there : at < length two = omega (arith, test, long) in
    let rest = key_cmp (directions (drop (at + 1) one)) (key_of (drop (at + 1) one) (row c.args.a.now c.args.i)) (key_of (drop (at + 1) two) (row c.args.b.now c.args.j)) in
    let step = key-step one two (row c.args.a.now c.args.i) (row c.args.b.now c.args.j) at _ _ c.compare.result _ _ near there c.compare.ensures c.cell.ensures c.cell-in-loop-place.ensures in
    c.loop-place.invariant ∙ (step ∙ (λ i. ordering_then (c.in-Equal.is i) rest))

pub returns : goal.returns
returns c =
    let one = c.args.a_order.now in
    let two = c.args.b_order.now in
    let test = c.loop-place-test.false in
    let long = alike-long one two c.requires.alike in
    sym (c.loop-place.invariant ∙ key-end one two (row c.args.a.now c.args.i) (row c.args.b.now c.args.j) c.loop-place.place (omega (arith, test)) (omega (arith, test, long)))
