use Rattle.std.proofs.Common.{ap, ◌∙◌, sym, length, ◌-◌, ◌≡◌, subst, refl}
use Rattle.std.specs.List.{AllByRecursion}
use Rattle.std.specs.Arc.{arc_value, arc_slice_items}
use Rattle.vx_rows_values.specs.Types.{Fits}
use Rattle.vx_rows.specs.View.{RowsView}
use Rattle.vx_rows_views.proofs.Facts.{length-slice}
use Rattle.vx_rows_views.proofs.Own.{own-is, own-rows, slice-fits}
use Rattle.vx_rows_views.proofs.Fitting.{fits-as, fit-width}
use Rattle.vx_rows_views.proofs.chunk.Chunk.of.Goals as goal

pub invariant_of-result : goal.invariant_of-result
invariant_of-result c =
    let base = arc_value c.args.base.now in
    let part = c.in_ok-part.part in
    let types = arc_slice_items c.in_ok-types.types in
    let kinds : types ≡ part.types = c.in_ok-types.ensures.ok ∙ (c.types.ensures.types ∙ (ap (λ t. t.types) c.deref.ensures ∙ sym c.in_ok-part.ensures.types)) in
    let n : length part.rows ≡ c.args.to - c.args.from = ap length c.in_ok-part.ensures.rows ∙ length-slice base.rows c.args.from c.args.to c.requires.order c.requires.there in
    let w : c.len.result ≡ length types = c.len.ensures in
    let fit = subst (λ (t : RowsView). AllByRecursion (Fits t.types) t.rows) c.deref.ensures c.types.ensures.fit in
    rw (c.in_ok-push.ensures.items, c.in_ok-parts.ensures.items, c.in_ok-fields.ensures, c.in_ok-own_fields.ensures, w) (own-is types part (c.args.to - c.args.from) kinds n
    (λ k h. fits-as base.types part.types _ _ c.in_ok-part.ensures.types refl (slice-fits base.types base.rows part.rows c.args.from c.args.to fit c.in_ok-part.ensures.rows c.requires.order c.requires.there k h)))

pub returns-clause-rows : goal.returns-clause-rows
returns-clause-rows c =
    let base = arc_value c.args.base.now in
    let part = c.in_ok-part.part in
    let types = arc_slice_items c.in_ok-types.types in
    let n : length part.rows ≡ c.args.to - c.args.from = ap length c.in_ok-part.ensures.rows ∙ length-slice base.rows c.args.from c.args.to c.requires.order c.requires.there in
    let w : c.len.result ≡ length types = c.len.ensures in
    let fit = subst (λ (t : RowsView). AllByRecursion (Fits t.types) t.rows) c.deref.ensures c.types.ensures.fit in
    let long : length base.types ≡ length types = sym (ap length (c.in_ok-types.ensures.ok ∙ (c.types.ensures.types ∙ ap (λ t. t.types) c.deref.ensures))) in
    rw (c.in_ok-push.ensures.items, c.in_ok-parts.ensures.items, c.in_ok-fields.ensures, c.in_ok-own_fields.ensures, w)
    (own-rows (length types) part (c.args.to - c.args.from) n (λ k h. fit-width base.types _ (slice-fits base.types base.rows part.rows c.args.from c.args.to fit c.in_ok-part.ensures.rows c.requires.order c.requires.there k h) ∙ long)
    ∙ c.in_ok-part.ensures.rows)
