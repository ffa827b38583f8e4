use Rattle.std.proofs.Common.{◌≡◌, suc, ◌-◌, ◌<◌, arith, refl, ap, ◌∙◌, sym, length, get_or, true, is_lt, []}
use Rattle.vx_rows_values.specs.Order.{compare_on, sorted}
use Rattle.vx_rows_values.proofs.SortedFacts.{not_sorted, sorted_from}
use Rattle.vx_rows.proofs.table.Table.is_sorted.Goals as goal

pub returns-then-falls : goal.returns-then-falls
returns-then-falls c =
    let rows = c.args.self.now.rows in
    let order = c.args.order.now in
    let i = c.loop-i.i in
    let e : suc (i - 1) ≡ i = omega arith in
    let near : suc (i - 1) < length rows = omega (arith, c.len-i-end.ensures, c.loop-i-test.true) in
    let h : is_lt (compare_on order (get_or rows i []) (get_or rows (i - 1) [])) ≡ true = sym c.falls.ensures ∙ c.if-falls.true in
    sym (not_sorted order rows (i - 1) near (ap (λ k. is_lt (compare_on order (get_or rows k []) (get_or rows (i - 1) []))) e ∙ h) (sorted order rows) refl)

pub returns : goal.returns
returns c = sym (sorted_from c.args.order.now c.args.self.now.rows (λ k l. c.loop-i.invariant k (omega (arith, c.len-i-end.ensures, c.loop-i-test.false))))
