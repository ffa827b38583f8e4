use Rattle.std.proofs.Common.{◌∙◌, ap}
use Rattle.std.proofs.Math.ListN.{set}
use Rattle.std.proofs.lemmas.List.{set-get_or}
use Rattle.vx_rows.proofs.writes.shrink_part.Goals as goal

pub returns : goal.returns
returns c =
    let xs = c.args.columns.now.items in
    let old = c.index_mut-column.result.now in
    ap (set xs c.args.j) (c.shrink.ensures ∙ c.index_mut-column.ensures.value) ∙ set-get_or xs c.args.j old
