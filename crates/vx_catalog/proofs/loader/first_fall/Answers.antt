use Rattle.std.proofs.Common.{◌≡◌, ◌-◌, ◌+◌, ◌<◌, ◌≤◌, true, false, length, [], arith, rules, slice_index_or, is_lt, sym, ap, ◌∙◌}
use Rattle.vx_rows_values.specs.Order.{compare_on}
use Rattle.vx_rows.specs.Numbers.{seen_numbers}
use Rattle.vx_catalog.proofs.KeyNumberFacts.{numbers-fall}
use Rattle.vx_catalog.proofs.OrderFacts.{falls_here, falls_later, falls_first, falls_nowhere}
use Rattle.vx_catalog.proofs.loader.first_fall.Goals as goal

pub loop-i-init : goal.loop-i-init
loop-i-init c = falls_first c.args.order.now c.args.rows.now.rows

pub returns-then-is_lt : goal.returns-then-is_lt
returns-then-is_lt c =
    let h : c.loop-i.i < length c.args.rows.now.rows = search rules in
    let falls : is_lt (compare_on c.args.order.now (slice_index_or c.args.rows.now.rows c.loop-i.i []) (slice_index_or c.args.rows.now.rows (c.loop-i.i - 1) [])) ≡ true = search rules in
    falls_here c.args.order.now c.args.rows.now.rows c.loop-i.i (slice_index_or c.args.rows.now.rows (c.loop-i.i - 1) []) _ h falls c.loop-i.invariant

pub loop-i-preserved : goal.loop-i-preserved
loop-i-preserved c =
    let h : c.loop-i.i < length c.args.rows.now.rows = search rules in
    let falls : is_lt (compare_on c.args.order.now (slice_index_or c.args.rows.now.rows c.loop-i.i []) (slice_index_or c.args.rows.now.rows (c.loop-i.i - 1) [])) ≡ false = search rules in
    let back : (c.loop-i.i + 1) - 1 ≡ c.loop-i.i = omega arith in
    rw back (falls_later c.args.order.now c.args.rows.now.rows c.loop-i.i (slice_index_or c.args.rows.now.rows (c.loop-i.i - 1) []) _ h falls c.loop-i.invariant)

pub returns : goal.returns
returns c =
    let h : length c.args.rows.now.rows ≤ c.loop-i.i = search rules in
    falls_nowhere c.args.order.now c.args.rows.now.rows c.loop-i.i (slice_index_or c.args.rows.now.rows (c.loop-i.i - 1) []) _ h c.loop-i.invariant

pub returns-in-Wide : goal.returns-in-Wide
returns-in-Wide c =
    numbers-fall c.args.order.now _ c.args.rows.now.rows c.in-Some.numbers.now c.in-Wide.wide.now c.len.result _ c.in-len1.len_at_least c.in-len1.len_below c.len.ensures (sym (ap seen_numbers c.in-Wide.is) ∙ c.view.ensures)
    c.in-Some.ensures.long c.in-Some.ensures.values c.first_number_fall.ensures
