use Rattle.std.proofs.Common.{arith, refl}
use Rattle.vx_rows_views.specs.Seen.{seen_positions}
use Rattle.vx_match_keys.proofs.ColumnFacts.{texts-are}
use Rattle.vx_match_keys.proofs.columns.TextColumn.of.Goals as goal

pub returns-in-Some : goal.returns-in-Some
returns-in-Some c =
    texts-are c.args.columns.now _ c.in-Some.texts.now (seen_positions c.in-Some.at) c.args.chunk.now.rows (omega (arith, c.if-columns-ne1.false)) refl c.in-Some.ensures.values
