use Rattle.std.proofs.Common.{◌≡◌, ℕ, ◌<◌, ◌≤◌, List, ◌++◌, Option, OnOk, min, length, get_or, string_bytes, codes, ap, subst, ◌∙◌, arith}
use Rattle.vx_rows_values.specs.ValueView.{cell_val}
use Rattle.vx_rows.specs.View.{row}
use Rattle.vx_catalog_formats.specs.Table.{field, line, cut_line}
use Rattle.vx_catalog_formats.proofs.RowFacts.{row_length, fields_more, fields_all}
use Rattle.vx_catalog_formats.proofs.table.Page.push_row.Goals as goal

pub loop-column-preserved : goal.loop-column-preserved
loop-column-preserved c =
    let widths = c.args.widths.now in
    let chunk = c.args.chunk.now in
    let r = row chunk c.args.i in
    let column = c.loop-column.column in
    let long : length r ≡ length chunk.types = row_length chunk.types chunk.rows c.args.i c.types.ensures.fit c.requires in
    let types : length c.types.result.now ≡ length chunk.types = ap length c.types.ensures.types in
    let near : column < length widths = omega (arith, c.min-column-end.ensures, c.loop-column-test.true) in
    let there : column < length r = omega (arith, c.min-column-end.ensures, c.loop-column-test.true, long, types) in
    let one = fields_more widths r column (cell_val c.cell-value.result) near there c.cell-value.ensures in
    record {
      line = c.in_ok-push_field.ensures ∙ (ap (λ (l : List ℕ). l ++ field (get_or widths column 0, cell_val c.cell-value.result)) c.loop-column.invariant.line ∙ one);
      text = c.loop-column.invariant.text;
      columns = c.loop-column.invariant.columns;
    }

pub returns-clause-text : goal.returns-clause-text
returns-clause-text c =
    let widths = c.args.widths.now in
    let chunk = c.args.chunk.now in
    let r = row chunk c.args.i in
    let page = c.loop-column.self in
    let made = string_bytes c.end_line.new.self.text in
    let long : length r ≡ length chunk.types = row_length chunk.types chunk.rows c.args.i c.types.ensures.fit c.requires in
    let types : length c.types.result.now ≡ length chunk.types = ap length c.types.ensures.types in
    let past : min (length widths) (length r) ≤ c.loop-column.column = omega (arith, c.min-column-end.ensures, c.loop-column-test.false, long, types) in
    let OfLine : List ℕ → Type 0 = λ l. OnOk c.end_line.result (made ≡ string_bytes page.text ++ cut_line page.columns (l ++ codes "|")) in
    let OfColumns : Option ℕ → Type 0 = λ o. OnOk c.end_line.result (made ≡ string_bytes page.text ++ cut_line o (line widths r)) in
    let OfText : List ℕ → Type 0 = λ t. OnOk c.end_line.result (made ≡ t ++ cut_line c.args.self.now.columns (line widths r)) in
    let whole = subst OfLine (c.loop-column.invariant.line ∙ fields_all widths r c.loop-column.column past) c.end_line.ensures.text in
    subst OfText c.loop-column.invariant.text (subst OfColumns c.loop-column.invariant.columns whole)
