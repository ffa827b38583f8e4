use Rattle.std.proofs.Common.{◌∙◌, sym, get_or, map, pos}
use Rattle.vx_rows_views.proofs.Counted.{each-passes}
use Rattle.vx_rows_views.proofs.places.passing_at.Goals as goal

pub returns-then-count-positions-clause-all : goal.returns-then-count-positions-clause-all
returns-then-count-positions-clause-all g c =
    let says = g.T.NumberTest.says c.args.test.now in
    let value = g.N.Number.value in
    let place = g.P.Position.place in
    each-passes (λ p. says (get_or (map value c.args.numbers.now) (place p) (pos 0))) c.args.positions.now (sym c.count_passing_at-count.ensures ∙ c.if-count-positions.true)
