use Rattle.std.proofs.Common.{◌∙◌, arith, inr}
use Rattle.std.proofs.lemmas.Result.{err_from_is_err_and}
use Rattle.csv.specs.Reading.{source_of}
use Rattle.csv.specs.Records.{fields_of}
use Rattle.vx_catalog.specs.Records.{rest_of}
use Rattle.vx_catalog.proofs.RecordFacts.{still_known}
use Rattle.vx_catalog.proofs.RowFacts.{rows_reported_more, rows_reported_stop, rows_reported_done, row_added_few, fails_own}
use Rattle.vx_catalog.proofs.record.read_sized_rows.Goals as goal

pub returns-then-not-branch-clause-rows : goal.returns-then-not-branch-clause-rows
returns-then-not-branch-clause-rows g c =
    let none = rw c.if-not-branch.true at c.in_ok-next_record.ensures.read in
    rw (c.into_rows.ensures.rows, c.shrink.ensures) (rows_reported_done c.args.types.now c.loop.rows.rows (rest_of g.S.Read.remaining c.args.reader.now) (rest_of g.S.Read.remaining c.loop.reader) c.loop.invariant.so_far none)

pub returns-then-not-branch-clause-known : goal.returns-then-not-branch-clause-known
returns-then-not-branch-clause-known g c =
    let rem = g.S.Read.remaining in
    inr (still_known (source_of rem c.args.reader.now) (source_of rem c.loop.reader) (source_of rem c.next_record.new.reader) c.loop.invariant.known c.in_ok-next_record.ensures.known)

pub returns-in_err-push_sized_record-clause-rows : goal.returns-in_err-push_sized_record-clause-rows
returns-in_err-push_sized_record-clause-rows g c =
    let p = err_from_is_err_and c.from_residual-in_err-push_sized_record.result c.from_residual-in_err-push_sized_record.ensures.1 in
    let taken = rw c.if-not-branch.false at c.in_ok-next_record.ensures.read in
    let bad = rw c.loop.invariant.types at c.in_err-push_sized_record.ensures.rows in
    let rem = g.S.Read.remaining in
    rw (p.1, p.2) (rows_reported_stop c.args.types.now c.loop.rows.rows (fields_of c.next_record.new.line) (rest_of rem c.args.reader.now) (rest_of rem c.loop.reader) (rest_of rem c.next_record.new.reader) _ c.loop.invariant.so_far taken.1 bad)

pub returns-in_err-push_sized_record-clause-known : goal.returns-in_err-push_sized_record-clause-known
returns-in_err-push_sized_record-clause-known g c =
    let rem = g.S.Read.remaining in
    inr (still_known (source_of rem c.args.reader.now) (source_of rem c.loop.reader) (source_of rem c.next_record.new.reader) c.loop.invariant.known c.in_ok-next_record.ensures.known)

pub returns-in_err-push_sized_record-clause-own : goal.returns-in_err-push_sized_record-clause-own
returns-in_err-push_sized_record-clause-own g c =
    let p = err_from_is_err_and c.from_residual-in_err-push_sized_record.result c.from_residual-in_err-push_sized_record.ensures.1 in
    rw (p.1, p.2) (fails_own _ _ c.in_err-push_sized_record.ensures.rows)

pub loop-preserved : goal.loop-preserved
loop-preserved g c =
    let taken = rw c.if-not-branch.false at c.in_ok-next_record.ensures.read in
    let added = rw c.loop.invariant.types at c.in_ok-push_sized_record.ensures.rows in
    let few = row_added_few c.args.types.now c.loop.rows.rows (fields_of c.next_record.new.line) c.push_sized_record.new.rows.rows added in
    let count = c.loop.invariant.count in
    let rem = g.S.Read.remaining in
    record {
      plain = taken.0;
      so_far = rows_reported_more c.args.types.now c.loop.rows.rows c.push_sized_record.new.rows.rows (fields_of c.next_record.new.line) (rest_of rem c.args.reader.now) (rest_of rem c.loop.reader) (rest_of rem c.next_record.new.reader) c.loop.invariant.so_far taken.1 added;
      known = still_known (source_of rem c.args.reader.now) (source_of rem c.loop.reader) (source_of rem c.next_record.new.reader) c.loop.invariant.known c.in_ok-next_record.ensures.known;
      types = c.in_ok-push_sized_record.ensures.types ∙ c.loop.invariant.types;
      front = c.in_ok-push_sized_record.ensures.front;
      count = omega (arith, few.1, count);
      few = omega (arith, few.0, few.1);
    }
