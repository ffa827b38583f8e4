use Rattle.std.proofs.Common.{◌≡◌, ◌<◌, [], ◌∷◌, ◌++◌, arith, sym, ap, ◌∙◌, length, get_or}
use Rattle.std.proofs.lemmas.List.{take_more}
use Rattle.vx_rows.specs.Lists.{each_below}
use Rattle.vx_rows.proofs.Below.{each_below-none, each_below-next}
use Rattle.vx_rows_views.specs.declared.chunk.Field.{Field}
use Rattle.vx_rows_views.specs.Chunks.{own_field}
use Rattle.vx_rows_views.proofs.chunk.are_own.Goals as goal

pub loop-column-init : goal.loop-column-init
loop-column-init c = sym (each_below-none own_field)

pub loop-column-preserved : goal.loop-column-preserved
loop-column-preserved c =
    let d : Field = record { part = 0; column = 0 } in
    let fields = c.args.fields.now in
    let column = c.loop-column.column in
    let near : column < length fields = omega (arith, c.loop-column-test.true, c.if-fields-width.false) in
    let e : get_or fields column d ≡ own_field column = λ i. record { part = c.if-field-ne0.false i; column = c.if-field-column.false i } in
    take_more fields column d near
    ∙ (ap (λ xs. xs ++ get_or fields column d ∷ []) c.loop-column.invariant
    ∙ (ap (λ f. each_below column own_field ++ f ∷ []) e ∙ sym (each_below-next column own_field)))
