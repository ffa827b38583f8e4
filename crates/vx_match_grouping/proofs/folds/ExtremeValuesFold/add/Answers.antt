use Rattle.std.proofs.Common.{[], ◌∙◌, sym, ap, get_or}
use Rattle.vx_rows_values.specs.ValueView.{val_of}
use Rattle.vx_match_grouping.specs.Shown.{is_beyond}
use Rattle.vx_match_grouping.proofs.BeyondFacts.{same_held}
use Rattle.vx_match_grouping.proofs.folds.ExtremeValuesFold.add.Goals as goal

pub returns-else-is_cell_beyond-clause-ok : goal.returns-else-is_cell_beyond-clause-ok
returns-else-is_cell_beyond-clause-ok c =
    let f = c.args.self.now in
    let v = val_of c.args.entry.now in
    same_held f.end f.operand.column v (get_or f.operand.chunk.now.rows c.args.i [])
    (ap (λ w. is_beyond f.end w v) (sym c.get-cell.ensures) ∙ (sym c.is_cell_beyond.ensures ∙ c.if-is_cell_beyond.false))
