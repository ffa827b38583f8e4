use Rattle.std.proofs.Common.{◌≡◌, ◌+◌, ◌++◌, ◌∙◌, sym, ap, subst, append_assoc, take, List}
use Rattle.vx_rows_values.specs.Values.{Row}
use Rattle.vx_rows_views.specs.Chunks.{all_rows}
use Rattle.vx_rows_views.proofs.Whole.{next-rows}
use Rattle.vx_match_grouping.specs.Groups.{HasTaken}
use Rattle.vx_match_grouping.specs.GroupFaults.{TakeBlame}
use Rattle.vx_match_keys.proofs.ErrorFacts.{reported}
use Rattle.vx_match_grouping.proofs.BlameFacts.{chunks-blame}
use Rattle.vx_match_grouping.proofs.grouping.Grouping.add_chunks.Goals as goal

pub loop-i-preserved : goal.loop-i-preserved
loop-i-preserved c =
    let inv = c.loop-i.invariant in
    let ts = c.args.chunks.now in
    let i = c.loop-i.i in
    let t = c.index-chunks-i.result in
    record {
      types = c.add_chunk.ensures.types ∙ inv.types;
      by = c.add_chunk.ensures.by ∙ inv.by;
      aggregates = c.add_chunk.ensures.aggregates ∙ inv.aggregates;
      failed = c.add_chunk.ensures.failed ∙ inv.failed;
      taken = λ xs old.
          let more : xs ++ all_rows (take (i + 1) ts) ≡ (xs ++ all_rows (take i ts)) ++ t.rows =
          ap (λ l. xs ++ l) (next-rows ts i t c.loop-i-test.true c.index-chunks-i.is) ∙ sym (append_assoc xs (all_rows (take i ts)) t.rows) in
          subst (HasTaken c.add_chunk.new.self) (sym more) (c.in_ok-add_chunk.ensures.taken (xs ++ all_rows (take i ts)) (inv.taken xs old));
    }

pub returns-in_err-add_chunk-clause-err : goal.returns-in_err-add_chunk-clause-err
returns-in_err-add_chunk-clause-err c =
    let inv = c.loop-i.invariant in
    let ts = c.args.chunks.now in
    let i = c.loop-i.i in
    let t = c.index-chunks-i.result in
    let e = c.in_err-add_chunk.field-0.0 in
    reported c.from_residual.result e (λ x. (xs : List Row) → HasTaken c.args.self.now xs → TakeBlame x (xs ++ all_rows ts)) c.from_residual.ensures.1
    (λ xs old.
    let more : xs ++ all_rows (take (i + 1) ts) ≡ (xs ++ all_rows (take i ts)) ++ t.rows =
    ap (λ l. xs ++ l) (next-rows ts i t c.loop-i-test.true c.index-chunks-i.is) ∙ sym (append_assoc xs (all_rows (take i ts)) t.rows) in
    chunks-blame e xs ts (i + 1) (subst (TakeBlame e) (sym more) (c.in_err-add_chunk.ensures.err (xs ++ all_rows (take i ts)) (inv.taken xs old))))
