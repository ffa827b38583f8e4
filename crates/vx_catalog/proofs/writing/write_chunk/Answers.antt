use Rattle.std.proofs.Common.{◌<◌, ◌++◌, ℕ, List, length, rules, subst, flat_map, arith}
use Rattle.std.proofs.lemmas.List.{take_all}
use Rattle.vx_rows_values.specs.Values.{Row}
use Rattle.vx_catalog.specs.Csv.{line_text}
use Rattle.vx_catalog.specs.Text.{StandsAt}
use Rattle.vx_catalog.proofs.CsvFacts.{lines_more}
use Rattle.vx_catalog.proofs.writing.write_chunk.Goals as goal

pub loop-i-preserved : goal.loop-i-preserved
loop-i-preserved c =
    let h : c.loop-i.i < length c.args.chunk.now.rows = search rules in
    λ so_far stands. rw (lines_more so_far c.args.chunk.now.rows c.loop-i.i h)
    (rw c.in_ok-fill_line.ensures at c.in_ok-write_line.ensures.text _ (c.loop-i.invariant so_far stands))

pub returns : goal.returns
returns c =
    let P : List Row → Type 0 = λ rs. (so_far : List ℕ) → StandsAt c.args.text.now so_far → StandsAt c.loop-i.text (so_far ++ flat_map line_text rs) in
    let n = c.len-i-end.ensures in
    let past = c.loop-i-test.false in
    subst P (take_all c.loop-i.i c.args.chunk.now.rows (omega (arith, n, past))) c.loop-i.invariant
