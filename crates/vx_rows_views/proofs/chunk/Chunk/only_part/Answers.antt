use Rattle.std.proofs.Common.{arith, sym, ap, ◌∙◌, length}
use Rattle.std.specs.Arc.{arc_slice_items}
use Rattle.vx_rows.specs.Lists.{each_below}
use Rattle.vx_rows_views.specs.Chunks.{own_field}
use Rattle.vx_rows_views.proofs.Own.{only-seen}
use Rattle.vx_rows_views.proofs.chunk.Chunk.only_part.Goals as goal

pub returns-then-are_own : goal.returns-then-are_own
returns-then-are_own c =
    let own = c.are_own.ensures c.if-are_own.true in
    only-seen (arc_slice_items c.self.inside.types) c.self.inside.parts.items (arc_slice_items c.self.inside.fields) c.self.inside.count c.args.self.now c.index-part.result.now c.self.invariant c.self.view_is
    (omega (arith, c.if-len-ne1.false, c.len.ensures, c.self.inside.parts.ok.0)) c.index-part.ensures
    (sym c.as_slice.ensures.value ∙ (own ∙ ap (λ ts. each_below (length ts) own_field) c.types.ensures))
