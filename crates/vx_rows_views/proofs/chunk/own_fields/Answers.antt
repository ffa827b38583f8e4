use Rattle.std.proofs.Common.{sym, ap, ◌∙◌, ◌++◌, ◌∷◌, []}
use Rattle.vx_rows.proofs.Below.{each_below-none, each_below-next}
use Rattle.vx_rows_views.specs.Chunks.{own_field}
use Rattle.vx_rows_views.proofs.chunk.own_fields.Goals as goal

pub loop-column-init : goal.loop-column-init
loop-column-init c = c.in_ok-fields.ensures.items ∙ sym (each_below-none own_field)

pub loop-column-preserved : goal.loop-column-preserved
loop-column-preserved c =
    c.in_ok-push.ensures.items ∙ (ap (λ xs. xs ++ own_field c.loop-column.column ∷ []) c.loop-column.invariant ∙ sym (each_below-next c.loop-column.column own_field))
