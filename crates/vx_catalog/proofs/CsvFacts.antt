-- The text of more rows.
use Rattle.std.proofs.Common.{◌≡◌, ℕ, ◌+◌, ◌<◌, List, [], ◌∷◌, ◌++◌, sym, ap, ◌∙◌, get_or, take, length, append_assoc, flat_map}
use Rattle.std.proofs.lemmas.Grind.{flat_map-append}
use Rattle.std.proofs.lemmas.List.{append-nil, take_more}
use Rattle.vx_rows_values.specs.Values.{Row}
use Rattle.vx_rows.specs.View.{RowsView}
use Rattle.vx_rows_views.specs.Chunks.{all_rows}
use Rattle.vx_rows_views.proofs.Whole.{next-rows}
use Rattle.vx_catalog.specs.Csv.{line_text}

-- one row more
pub lines_more : (so_far : List ℕ) (rows : List Row) (i : ℕ) → i < length rows → so_far ++ flat_map line_text (take (i + 1) rows) ≡ (so_far ++ flat_map line_text (take i rows)) ++ line_text (get_or rows i [])
lines_more so_far rows i h =
    let one : flat_map line_text (take (i + 1) rows) ≡ flat_map line_text (take i rows) ++ line_text (get_or rows i []) =
    ap (λ (l : List Row). flat_map line_text l) (take_more rows i [] h) ∙ (flat_map-append line_text (take i rows) (get_or rows i [] ∷ []) ∙ ap (λ (l : List ℕ). flat_map line_text (take i rows) ++ l) (append-nil (line_text (get_or rows i [])))) in
    ap (λ (l : List ℕ). so_far ++ l) one ∙ sym (append_assoc so_far (flat_map line_text (take i rows)) (line_text (get_or rows i [])))

-- the rows of one chunk more
pub chunks_more : (so_far : List ℕ) (chunks : List RowsView) (i : ℕ) (c : RowsView) → i < length chunks → c ≡ get_or chunks i c
    → so_far ++ flat_map line_text (all_rows (take (i + 1) chunks)) ≡ (so_far ++ flat_map line_text (all_rows (take i chunks))) ++ flat_map line_text c.rows
chunks_more so_far chunks i c h e =
    ap (λ (l : List Row). so_far ++ flat_map line_text l) (next-rows chunks i c h e)
    ∙ (ap (λ (l : List ℕ). so_far ++ l) (flat_map-append line_text (all_rows (take i chunks)) c.rows) ∙ sym (append_assoc so_far (flat_map line_text (all_rows (take i chunks))) (flat_map line_text c.rows)))
