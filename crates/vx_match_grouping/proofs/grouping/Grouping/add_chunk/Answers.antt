use Rattle.std.proofs.Common.{◌+◌, ◌++◌, ◌∙◌, sym, subst, arith, take, take_all, List}
use Rattle.vx_rows_values.specs.Values.{Row}
use Rattle.vx_match_grouping.specs.Groups.{HasTaken}
use Rattle.vx_match_grouping.specs.GroupFaults.{TakeBlame}
use Rattle.vx_match_keys.proofs.ErrorFacts.{reported}
use Rattle.vx_match_grouping.proofs.BlameFacts.{front-blame}
use Rattle.vx_match_grouping.proofs.GroupFacts.{block-more}
use Rattle.vx_match_grouping.proofs.grouping.Grouping.add_chunk.Goals as goal

pub loop-from-preserved : goal.loop-from-preserved
loop-from-preserved c =
    let inv = c.loop-from.invariant in
    let rows = c.args.chunk.now.rows in
    let from = c.loop-from.from in
    let to = from + c.min-most.result in
    record {
      within = omega (arith, c.len-count.ensures);
      types = c.add_block-in-loop-from.ensures.types ∙ inv.types;
      by = c.add_block-in-loop-from.ensures.by ∙ inv.by;
      aggregates = c.add_block-in-loop-from.ensures.aggregates ∙ inv.aggregates;
      failed = c.add_block-in-loop-from.ensures.failed ∙ inv.failed;
      taken = λ xs old.
          subst (HasTaken c.add_block-in-loop-from.new.self) (sym (block-more xs rows c.in_ok-block.block.rows from to (omega arith) (omega (arith, c.len-count.ensures)) c.in_ok-block.ensures.rows))
          (c.in_ok-add_block.ensures.taken (xs ++ take from rows) (inv.taken xs old));
    }

pub returns-clause-taken : goal.returns-clause-taken
returns-clause-taken c = λ xs old.
    let rows = c.args.chunk.now.rows in
    let from = c.loop-from.from in
    let test = c.loop-from-test.false in
    subst (λ l. HasTaken c.loop-from.self (xs ++ l)) (take_all from rows (omega (arith, test, c.len-count.ensures))) (c.loop-from.invariant.taken xs old)

pub returns-in_err-add_block-clause-err : goal.returns-in_err-add_block-clause-err
returns-in_err-add_block-clause-err c =
    let inv = c.loop-from.invariant in
    let rows = c.args.chunk.now.rows in
    let from = c.loop-from.from in
    let to = from + c.min-most.result in
    let e = c.in_err-add_block.field-0.0 in
    reported c.from_residual-in_err-add_block.result e (λ x. (xs : List Row) → HasTaken c.args.self.now xs → TakeBlame x (xs ++ rows)) c.from_residual-in_err-add_block.ensures.1
    (λ xs old. front-blame e xs rows to
    (subst (TakeBlame e) (sym (block-more xs rows c.in_ok-block.block.rows from to (omega arith) (omega (arith, c.len-count.ensures)) c.in_ok-block.ensures.rows))
    (c.in_err-add_block.ensures.err (xs ++ take from rows) (inv.taken xs old))))
