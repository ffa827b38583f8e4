use Rattle.std.proofs.Common.{sym, ap, ◌∙◌}
use Rattle.std.specs.List.{position_or_len}
use Rattle.vx_rows_values.specs.Values.{row_eq}
use Rattle.vx_match_keys.proofs.NumberFacts.{found-number, missing-number}
use Rattle.vx_match_keys.proofs.row_keys.RowKeys.number_or_next.Goals as goal

pub returns-in_default : goal.returns-in_default
returns-in_default c =
    let key = c.args.key.now in
    c.len.ensures.len ∙ (missing-number (row_eq key) c.self.inside.set.keys (sym c.in_default.ensures.index) ∙ ap (position_or_len (row_eq key)) c.self.view_is)

pub returns : goal.returns
returns c =
    let key = c.args.key.now in
    found-number (row_eq key) c.self.inside.set.keys c.in-Some.number (sym c.in-Some.ensures.index) ∙ ap (position_or_len (row_eq key)) c.self.view_is
