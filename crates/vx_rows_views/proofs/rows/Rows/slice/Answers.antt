use Rattle.std.proofs.Common.{◌-◌, ◌++◌, ap, ◌∙◌, take, drop}
use Rattle.vx_rows.specs.View.{RowsView}
use Rattle.vx_rows_views.specs.Chunks.{all_rows}
use Rattle.vx_rows_views.proofs.Marked.{part-from}
use Rattle.vx_rows_views.proofs.rows.Rows.slice.Goals as goal

pub returns-clause-rows : goal.returns-clause-rows
returns-clause-rows c =
    let count = c.args.to - c.args.from in
    let r = c.chunks_toward-before in
    let part = take count (drop (c.args.from - r.result.1) (all_rows r.result.0.now)) in
    c.in_ok-add_part.ensures.ok
    ∙ (ap (λ rs. rs ++ part) c.in_ok-found.ensures.rows
    ∙ (part-from r.ensures.rest c.args.from count r.ensures.before
    ∙ (ap (λ us. take count (drop c.args.from (all_rows us))) c.as_slice.ensures.value
    ∙ ap (λ (v : RowsView). take count (drop c.args.from v.rows)) c.self.view_is)))
