use Rattle.std.proofs.Common.{◌∙◌, sym, map}
use Rattle.std.proofs.lemmas.List.{length-map}
use Rattle.vx_rows_values.specs.Values.{num}
use Rattle.vx_rows_views.specs.Selected.{of_number}
use Rattle.vx_rows_views.proofs.Counted.{each-passes}
use Rattle.vx_rows_views.proofs.places.passing.Goals as goal

pub returns-then-count-numbers-clause-all : goal.returns-then-count-numbers-clause-all
returns-then-count-numbers-clause-all g c =
    let value = g.N.Number.value in
    each-passes (of_number (g.T.NumberTest.says c.args.test.now)) (map (λ n. num (value n)) c.args.numbers.now)
    (sym c.count_passing-count.ensures ∙ (c.if-count-numbers.true ∙ sym (length-map c.args.numbers.now (λ n. num (value n)))))
