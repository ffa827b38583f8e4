use Rattle.std.proofs.Common.{◌≡◌, ◌<◌, ◌++◌, ◌∙◌, arith, sym, ap, subst, length, length-set, map, take, take_all, get_or, List, ℕ}
use Rattle.vx_rows_values.specs.Values.{Row, pick}
use Rattle.vx_match_keys.specs.Numbers.{numbers_of}
use Rattle.vx_plan_nodes.specs.Serial.{group_keys}
use Rattle.vx_match_keys.proofs.ErrorFacts.{reported}
use Rattle.vx_match_grouping.specs.declared.column.AggregateColumn.{AggregateColumn}
use Rattle.vx_match_grouping.specs.Groups.{column_of}
use Rattle.vx_match_grouping.specs.GroupFaults.{TakeBlame}
use Rattle.vx_match_grouping.specs.Shown.{column_held, aggregate_in}
use Rattle.vx_match_grouping.proofs.FrontFacts.{Pairs, front-step, rest-same, map-kept}
use Rattle.vx_match_grouping.proofs.ColumnFacts.{TookRows, columns-taken, column-was}
use Rattle.vx_match_grouping.proofs.grouping.add_columns.Goals as goal

pub loop-place-preserved : goal.loop-place-preserved
loop-place-preserved c =
    let inv = c.loop-place.invariant in
    let rows = c.args.chunk.now.rows in
    let numbers = c.args.numbers.now in
    let now = c.loop-place.columns.items in
    let old = c.args.columns.now.items in
    let place = c.loop-place.place in
    let test = c.loop-place-test.true in
    let v = c.add.new.self in
    let x = c.index_mut.result.now in
    let far : place < length old = omega (arith, test, c.len-place-end.ensures) in
    let below : place < length now = omega (arith, far, inv.long) in
    let is : x ≡ get_or now place x = c.index_mut.ensures.value in
    let took : TookRows rows numbers (get_or now place x) v = subst (λ y. TookRows rows numbers y v) is c.in_ok-add.ensures.taken in
    let step = front-step (TookRows rows numbers) now old place v x below far inv.front inv.rest took in
    record {
      front = step.0;
      rest = step.1;
      long = length-set now place v ∙ inv.long;
      same = map-kept aggregate_in now place v x below (c.add.ensures.aggregate ∙ ap aggregate_in is) ∙ inv.same;
    }

pub returns-clause-taken : goal.returns-clause-taken
returns-clause-taken c = λ by xs are was.
    let inv = c.loop-place.invariant in
    let rows = c.args.chunk.now.rows in
    let numbers = c.args.numbers.now in
    let now = c.loop-place.columns.items in
    let old = c.args.columns.now.items in
    let place = c.loop-place.place in
    let test = c.loop-place-test.false in
    let whole : take place old ≡ old = take_all place old (omega (arith, test, c.len-place-end.ensures)) in
    let all : take place now ≡ now = take_all place now (omega (arith, test, c.len-place-end.ensures, inv.long)) in
    columns-taken by xs rows numbers are old now (subst (λ l. Pairs (TookRows rows numbers) l now) whole (subst (Pairs (TookRows rows numbers) (take place old)) all inv.front)) was

pub returns-in_err-add-clause-aggregates : goal.returns-in_err-add-clause-aggregates
returns-in_err-add-clause-aggregates c =
    let inv = c.loop-place.invariant in
    let now = c.loop-place.columns.items in
    let old = c.args.columns.now.items in
    let place = c.loop-place.place in
    let test = c.loop-place-test.true in
    let far : place < length old = omega (arith, test, c.len-place-end.ensures) in
    let below : place < length now = omega (arith, far, inv.long) in
    map-kept aggregate_in now place c.add.new.self c.index_mut.result.now below (c.add.ensures.aggregate ∙ ap aggregate_in c.index_mut.ensures.value) ∙ inv.same

pub returns-in_err-add-clause-err : goal.returns-in_err-add-clause-err
returns-in_err-add-clause-err c =
    let inv = c.loop-place.invariant in
    let rows = c.args.chunk.now.rows in
    let numbers = c.args.numbers.now in
    let now = c.loop-place.columns.items in
    let old = c.args.columns.now.items in
    let place = c.loop-place.place in
    let test = c.loop-place-test.true in
    let x = c.index_mut.result.now in
    let e = c.in_err-add.field-0.0 in
    let far : place < length old = omega (arith, test, c.len-place-end.ensures) in
    let below : place < length now = omega (arith, far, inv.long) in
    let is : x ≡ get_or old place x = c.index_mut.ensures.value ∙ rest-same now old place x below far inv.rest in
    reported c.from_residual.result e
    (λ f. (by : List ℕ) (xs : List Row) → numbers ≡ numbers_of (group_keys by xs) (map (pick by) rows) → map column_held old ≡ map (column_of by xs) (map aggregate_in old) → TakeBlame f (xs ++ rows))
    c.from_residual.ensures.1
    (λ by xs are was. c.in_err-add.ensures.err by xs are
    (subst (λ (y : AggregateColumn). column_held y ≡ column_of by xs (aggregate_in y)) (sym is) (column-was by xs old place x far was)))
