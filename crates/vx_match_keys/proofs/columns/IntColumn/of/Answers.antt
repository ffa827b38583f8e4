use Rattle.std.proofs.Common.{arith, refl, ap, ◌∙◌}
use Rattle.vx_rows_views.specs.Seen.{seen_positions}
use Rattle.vx_match_keys.specs.Columns.{number_keys}
use Rattle.vx_match_keys.proofs.ColumnFacts.{numbers-are}
use Rattle.vx_match_keys.proofs.columns.IntColumn.of.Goals as goal

pub returns-in-Some : goal.returns-in-Some
returns-in-Some c =
    ap (λ numbers. number_keys numbers (seen_positions c.in-Some.at)) c.view.ensures
    ∙ numbers-are c.args.columns.now _ c.in-Some.numbers.now (seen_positions c.in-Some.at) c.args.chunk.now.rows (omega (arith, c.if-columns-ne1.false)) refl c.in-Some.ensures.values
