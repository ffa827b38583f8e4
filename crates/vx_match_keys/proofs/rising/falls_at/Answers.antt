use Rattle.std.proofs.Common.{◌≡◌, suc, ◌-◌, ◌<◌, arith, ap, refl, ◌∙◌, sym, length, get_or, true, is_lt, []}
use Rattle.vx_rows_values.specs.Order.{compare_on, sorted}
use Rattle.vx_rows_values.proofs.SortedFacts.{not_sorted}
use Rattle.vx_match_keys.proofs.rising.falls_at.Goals as goal

pub returns-clause-falls : goal.returns-clause-falls
returns-clause-falls c = λ is.
    let rows = c.args.rows.now.rows in
    let order = c.args.order.now in
    let at = c.args.at in
    let e : suc (at - 1) ≡ at = omega arith in
    let near : suc (at - 1) < length rows = omega (arith, c.len.ensures, c.if-at-len.false) in
    let h : is_lt (compare_on order (get_or rows at []) (get_or rows (at - 1) [])) ≡ true = ap is_lt (sym c.compare_rows.ensures) ∙ (sym c.is_lt.ensures ∙ is) in
    not_sorted order rows (at - 1) near (ap (λ k. is_lt (compare_on order (get_or rows k []) (get_or rows (at - 1) []))) e ∙ h) (sorted order rows) refl
