use Rattle.std.proofs.Common.{ℕ, List, ◌++◌, Option, flat_map, string_bytes, ap, ◌∙◌}
use Rattle.vx_rows_values.specs.Values.{Row}
use Rattle.vx_catalog_formats.specs.Table.{line, cut_line}
use Rattle.vx_catalog_formats.proofs.RowFacts.{chunks_more}
use Rattle.vx_catalog_formats.proofs.table.Page.push_chunks.Goals as goal

pub loop-i-preserved : goal.loop-i-preserved
loop-i-preserved c =
    let widths = c.args.widths.now in
    let chunk = c.index-chunks-i.result in
    let columns = c.args.self.now.columns in
    let f : Option ℕ → Row → List ℕ = λ o r. cut_line o (line widths r) in
    let more = chunks_more (f columns) (string_bytes c.args.self.now.text) c.args.chunks.now c.loop-i.i chunk c.loop-i-test.true c.index-chunks-i.is in
    record {
      text = c.in_ok-push_chunk.ensures.text
          ∙ (ap (λ (o : Option ℕ). string_bytes c.loop-i.self.text ++ flat_map (f o) chunk.rows) c.loop-i.invariant.columns
          ∙ (ap (λ (t : List ℕ). t ++ flat_map (f columns) chunk.rows) c.loop-i.invariant.text ∙ more));
      columns = c.in_ok-push_chunk.ensures.columns ∙ c.loop-i.invariant.columns;
    }
