use Rattle.std.proofs.Common.{◌∷◌, [], refl, ap, ◌∙◌}
use Rattle.vx_rows_views.specs.Seen.{seen_positions}
use Rattle.vx_match_keys.specs.Columns.{number_keys}
use Rattle.vx_match_keys.proofs.ColumnFacts.{numbers-are, texts-are}
use Rattle.vx_match_keys.proofs.columns.ValueColumn.of.Goals as goal

pub returns-in-Some : goal.returns-in-Some
returns-in-Some c =
    ap (λ numbers. number_keys numbers (seen_positions c.in-Some.at)) c.view.ensures
    ∙ numbers-are (c.args.column ∷ []) _ c.in-Some.numbers.now (seen_positions c.in-Some.at) c.args.chunk.now.rows refl refl c.in-Some.ensures.values

pub returns-in-Some-texts : goal.returns-in-Some-texts
returns-in-Some-texts c =
    texts-are (c.args.column ∷ []) _ c.in-Some-texts.texts.now (seen_positions c.in-Some-texts.at) c.args.chunk.now.rows refl refl c.in-Some-texts.ensures.values
