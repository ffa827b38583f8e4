use Rattle.std.proofs.Common.{◌≡◌, ◌+◌, length, take_all, ap, refl, sym, ◌∙◌, arith}
use Rattle.vx_rows_values.specs.Order.{sorted}
use Rattle.vx_rows_values.proofs.SortedFacts.{sorted_from}
use Rattle.vx_rows_views.specs.Chunks.{all_rows}
use Rattle.vx_match_keys.proofs.RiseFacts.{table-within, table-place, table-next, table-falls}
use Rattle.vx_match_keys.proofs.rising.rises.Goals as goal
use Rattle.vx_match_keys.proofs.rising.rises.Goals.{then-falls_at-via-then-falls_at, then-falls_at-via-else-falls_at+then-not-chunk_rises}

pub returns-then-falls_at : goal.returns-then-falls_at
returns-then-falls_at c =
    let order = c.args.order.now in
    let rows = c.args.rows.now.rows in
    let t = c.index-chunks-i.result in
    elim c.then-falls_at.branch [
      | then-falls_at-via-then-falls_at w ↦ sym (c.falls_at.ensures.falls w.if-falls_at.true)
      | then-falls_at-via-else-falls_at+then-not-chunk_rises w ↦
          sym (table-falls order c.chunks-chunks.result.now rows c.chunks-chunks.ensures.rows c.loop-i.i c.loop-i.at t c.loop-i-test.true c.index-chunks-i.is c.loop-i.invariant.place
          (sym w.chunk_rises.ensures ∙ w.if-not-chunk_rises.true) (sorted order rows) refl)
    ]

pub overflow_add-at : goal.overflow_add-at
overflow_add-at c =
    let t = c.index-chunks-i.result in
    let w = table-within c.args.order.now c.chunks-chunks.result.now c.args.rows.now.rows c.chunks-chunks.ensures.rows c.loop-i.i c.loop-i.at t c.loop-i-test.true c.index-chunks-i.is c.loop-i.invariant.place in
    omega (arith, w, c.len-at.ensures, c.len-count.ensures)

pub loop-i-preserved : goal.loop-i-preserved
loop-i-preserved c =
    let order = c.args.order.now in
    let ts = c.chunks-chunks.result.now in
    let rows = c.args.rows.now.rows in
    let whole = c.chunks-chunks.ensures.rows in
    let at = c.loop-i.at in
    let t = c.index-chunks-i.result in
    let place = c.loop-i.invariant.place in
    let e : at + c.len-at.result ≡ at + length t.rows = ap (λ n. at + n) c.len-at.ensures in
    let here = sym c.chunk_rises.ensures ∙ c.if-not-chunk_rises.false in
    let next = table-next order ts rows whole c.loop-i.i at t c.loop-i-test.true c.index-chunks-i.is place here c.loop-i.invariant.rises (c.falls_at.ensures.rises c.if-falls_at.false) in
    record {
      place = e ∙ table-place order ts rows whole c.loop-i.i at t c.loop-i-test.true c.index-chunks-i.is place;
      rises = λ k l. next k (omega (arith, l, e));
    }

pub returns : goal.returns
returns c =
    let ts = c.chunks-chunks.result.now in
    let all = ap all_rows (take_all c.loop-i.i ts (omega (arith, c.loop-i-test.false))) ∙ c.chunks-chunks.ensures.rows in
    let end = c.loop-i.invariant.place ∙ ap length all in
    sym (sorted_from c.args.order.now c.args.rows.now.rows (λ k l. c.loop-i.invariant.rises k (omega (arith, l, end))))
