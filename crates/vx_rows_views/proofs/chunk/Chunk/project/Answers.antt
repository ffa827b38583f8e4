use Rattle.std.proofs.Common.{ap, length, arith}
use Rattle.std.specs.Arc.{arc_slice_items}
use Rattle.vx_rows.specs.View.{AreColumns}
use Rattle.vx_rows_views.proofs.Chunked.{picked-is, picked-rows}
use Rattle.vx_rows_views.proofs.chunk.Chunk.project.Goals as goal

pub invariant_of-result : goal.invariant_of-result
invariant_of-result c =
    let near : AreColumns (length (arc_slice_items c.self.inside.types)) c.args.cols.now = λ k d l. let w = ap length (ap (λ t. t.types) c.self.view_is) in let r = c.requires k d l in omega (arith, w, r) in
    rw (c.in_ok-types.ensures, c.in_ok-types_at.ensures, c.as_slice.ensures.value, c.in_ok-fields.ensures, c.in_ok-fields_at.ensures, c.as_slice-2.ensures.value) (picked-is c.self.invariant c.args.cols.now near)

pub returns-clause-rows : goal.returns-clause-rows
returns-clause-rows c =
    let near : AreColumns (length (arc_slice_items c.self.inside.types)) c.args.cols.now = λ k d l. let w = ap length (ap (λ t. t.types) c.self.view_is) in let r = c.requires k d l in omega (arith, w, r) in
    rw (c.in_ok-fields.ensures, c.in_ok-fields_at.ensures, c.as_slice-2.ensures.value) (picked-rows c.self.invariant c.args.cols.now near c.args.self.rows (ap (λ t. t.rows) c.self.view_is))
