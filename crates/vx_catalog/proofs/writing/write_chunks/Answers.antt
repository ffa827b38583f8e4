use Rattle.std.proofs.Common.{◌++◌, ℕ, List, subst, flat_map, arith}
use Rattle.std.proofs.lemmas.List.{take_all}
use Rattle.vx_rows.specs.View.{RowsView}
use Rattle.vx_rows_views.specs.Chunks.{all_rows}
use Rattle.vx_catalog.specs.Csv.{line_text}
use Rattle.vx_catalog.specs.Text.{StandsAt}
use Rattle.vx_catalog.proofs.CsvFacts.{chunks_more}
use Rattle.vx_catalog.proofs.writing.write_chunks.Goals as goal

pub loop-i-preserved : goal.loop-i-preserved
loop-i-preserved c =
    λ so_far stands. rw (chunks_more so_far c.args.chunks.now c.loop-i.i c.index-chunks-i.result c.loop-i-test.true c.index-chunks-i.is)
    (c.in_ok-write_chunk.ensures _ (c.loop-i.invariant so_far stands))

pub returns : goal.returns
returns c =
    let P : List RowsView → Type 0 = λ cs. (so_far : List ℕ) → StandsAt c.args.text.now so_far → StandsAt c.loop-i.text (so_far ++ flat_map line_text (all_rows cs)) in
    let past = c.loop-i-test.false in
    subst P (take_all c.loop-i.i c.args.chunks.now (omega (arith, past))) c.loop-i.invariant
