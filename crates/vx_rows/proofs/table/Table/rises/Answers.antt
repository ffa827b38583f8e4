use Rattle.std.proofs.Common.{◌≡◌, suc, ◌-◌, arith, ap, ◌∙◌, sym, get_or, true, [], true≢false, is_lt}
use Rattle.vx_rows_values.specs.Order.{rising, compare_on}
use Rattle.vx_rows_values.proofs.KeyFacts.{rises-apart, sorted-rises}
use Rattle.vx_rows.proofs.table.Table.rises.Goals as goal

pub returns-clause-apart : goal.returns-clause-apart
returns-clause-apart c = λ _. rises-apart c.args.cols.now c.args.self.now.rows (λ k h. c.loop-i.invariant k (omega (arith, c.len-i-end.ensures, c.loop-i-test.false)))

pub returns-then-not-is_lt-clause-rising : goal.returns-then-not-is_lt-clause-rising
returns-then-not-is_lt-clause-rising c = λ s e.
    let cols = c.args.cols.now in
    let rows = c.args.self.now.rows in
    let i = c.loop-i.i in
    let back : suc (i - 1) ≡ i = omega arith in
    let up = sorted-rises cols rows s e (i - 1) (omega (arith, c.len-i-end.ensures, c.loop-i-test.true)) in
    let here : is_lt (compare_on (rising cols) (get_or rows (i - 1) []) (get_or rows i [])) ≡ true = ap (λ n. is_lt (compare_on (rising cols) (get_or rows (i - 1) []) (get_or rows n []))) (sym back) ∙ up in
    absurd (true≢false (sym here ∙ (ap is_lt (sym c.compare_columns.ensures) ∙ (sym c.is_lt.ensures ∙ c.if-not-is_lt.true))))
