use Rattle.std.proofs.Common.{sym, ap, ◌∙◌, get_or, List, map}
use Rattle.std.proofs.lemmas.List.Folds.{list_all-map, list_all_at}
use Rattle.vx_match_grouping.specs.declared.column.AggregateColumn.{AggregateColumn}
use Rattle.vx_match_grouping.specs.Groups.{Held, held_fits, no_held}
use Rattle.vx_match_grouping.specs.Shown.{column_held}
use Rattle.vx_match_grouping.proofs.grouping.cells_of.Goals as goal

pub returns-in_default-clause-err : goal.returns-in_default-clause-err
returns-in_default-clause-err c =
    let columns = c.args.columns.now in
    let at = λ (held : List Held). get_or held c.args.number no_held in
    let fits = λ (a : AggregateColumn). held_fits (at (column_held a)) in
    list_all-map held_fits at (map column_held columns)
    ∙ (list_all-map (λ (held : List Held). held_fits (at held)) column_held columns
    ∙ list_all_at fits columns c.loop-column.column-index c.column-item.result c.loop-column-test.true (ap fits (sym c.column-item.is) ∙ c.in_default.ensures.not))
