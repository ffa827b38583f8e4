use Rattle.std.proofs.Common.{◌+◌, ◌-◌, arith, ap, ◌∙◌, get_or, length, map, pos}
use Rattle.vx_rows.specs.Lists.{each_below}
use Rattle.vx_rows_values.specs.Values.{num}
use Rattle.vx_rows_views.proofs.Columns.{part-numbers, no-numbers}
use Rattle.vx_rows_views.proofs.places.part_of.Goals as goal

pub returns-then-count-eq0 : goal.returns-then-count-eq0
returns-then-count-eq0 c = no-numbers (λ q. num (get_or c.args.numbers.now q (pos 0))) (λ k. c.args.from + k) c.args.count c.if-count-eq0.true

pub returns-in-Narrow : goal.returns-in-Narrow
returns-in-Narrow c =
    part-numbers c.in-Narrow.narrow.now c.args.from c.args.count (let r = c.requires (c.args.count - 1) (omega arith) in let e = ap length c.in-Narrow.ensures in omega arith)
    ∙ ap (λ ns. map (λ q. num (get_or ns q (pos 0))) (each_below c.args.count (λ k. c.args.from + k))) c.in-Narrow.ensures

pub returns-in-Wide : goal.returns-in-Wide
returns-in-Wide c =
    part-numbers c.in-Wide.wide.now c.args.from c.args.count (let r = c.requires (c.args.count - 1) (omega arith) in let e = ap length c.in-Wide.ensures in omega arith)
    ∙ ap (λ ns. map (λ q. num (get_or ns q (pos 0))) (each_below c.args.count (λ k. c.args.from + k))) c.in-Wide.ensures
