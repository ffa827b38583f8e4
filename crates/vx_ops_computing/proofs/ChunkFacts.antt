-- What selections and projections make of chunks that lie one behind the other.
use Rattle.std.proofs.Common.{◌≡◌, ℕ, ◌+◌, ◌<◌, List, ◌++◌, length, take, drop, get_or, None, sym, ap, ◌∙◌}
use Rattle.std.proofs.lemmas.Grind.{flat_map-append}
use Rattle.std.proofs.lemmas.List.{take-append-drop}
use Rattle.vx_rows.specs.View.{RowsView}
use Rattle.vx_rows_views.specs.Chunks.{all_rows}
use Rattle.vx_rows_views.proofs.Whole.{next-rows}
use Rattle.vx_plan_nodes.specs.Plan.{Filter, Entry, select, project}
use Rattle.vx_plan_nodes.specs.Serial.{unary_rows}
use Rattle.vx_ops_computing.proofs.Parts.{select-none, project-none}

-- the rows before a chunk, its own, and those behind it
whole-rows : (ts : List RowsView) (i : ℕ) (t : RowsView) → i < length ts → t ≡ get_or ts i t → all_rows ts ≡ (all_rows (take i ts) ++ t.rows) ++ all_rows (drop (i + 1) ts)
whole-rows ts i t l is =
    ap all_rows (sym (take-append-drop (i + 1) ts))
    ∙ (flat_map-append (λ u. u.rows) (take (i + 1) ts) (drop (i + 1) ts) ∙ ap (λ rs. rs ++ all_rows (drop (i + 1) ts)) (next-rows ts i t l is))

pub chunk-selects-none : (fs : List Filter) (ts : List RowsView) (i : ℕ) (t : RowsView) → i < length ts → t ≡ get_or ts i t → unary_rows (select fs) t.rows ≡ None → unary_rows (select fs) (all_rows ts) ≡ None
chunk-selects-none fs ts i t l is none =
    ap (unary_rows (select fs)) (whole-rows ts i t l is) ∙ select-none fs (all_rows (take i ts)) t.rows (all_rows (drop (i + 1) ts)) none

pub chunk-projects-none : (es : List Entry) (ts : List RowsView) (i : ℕ) (t : RowsView) → i < length ts → t ≡ get_or ts i t → unary_rows (project es) t.rows ≡ None → unary_rows (project es) (all_rows ts) ≡ None
chunk-projects-none es ts i t l is none =
    ap (unary_rows (project es)) (whole-rows ts i t l is) ∙ project-none es (all_rows (take i ts)) t.rows (all_rows (drop (i + 1) ts)) none
