use Rattle.std.proofs.Common.{sym, ◌∙◌, is_eq}
use Rattle.std.proofs.lemmas.Map.Text.{is_eq-slice_cmp}
use Rattle.vx_rows_values.specs.Values.{val_cmp}
use Rattle.vx_rows_values.specs.ValueView.{cell_val}
use Rattle.vx_match_keys.proofs.column_keys.same_value.Goals as goal

pub returns-in-Text-Text : goal.returns-in-Text-Text
returns-in-Text-Text c =
    let both = c.in-Text-Text in
    c.eq.ensures ∙ (sym (is_eq-slice_cmp both.x.now both.y.now) ∙ (λ i. is_eq (val_cmp (cell_val (sym both.is-0 i)) (cell_val (sym both.is-1 i)))))
