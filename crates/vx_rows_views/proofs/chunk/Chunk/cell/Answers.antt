use Rattle.std.proofs.Common.{◌<◌, arith, ap, ◌∙◌, length}
use Rattle.std.specs.Arc.{arc_slice_items}
use Rattle.vx_rows_views.proofs.Chunked.{part-long, count-is, cell-value}
use Rattle.std.proofs.lemmas.List.{length-map}
use Rattle.vx_rows_views.specs.Chunks.{type_in}
use Rattle.vx_rows_views.proofs.chunk.Chunk.cell.Goals as goal

pub cell-requires-clause-row : goal.cell-requires-clause-row
cell-requires-clause-row c =
    let w = ap length (ap (λ t. t.types) c.self.view_is) in
    let k = ap length c.self.invariant.kinds ∙ length-map (arc_slice_items c.self.inside.fields) (type_in c.self.inside.parts.items) in
    let m = count-is c.self.invariant c.args.self.now (ap (λ t. t.rows) c.self.view_is) in
    let r = c.requires.column in
    let there = c.self.invariant.there c.args.column c.field_of-field.result (omega (arith, w, k, r)) in
    let n = part-long c.self.invariant c.field_of-field.result.part c.index.result.now (rw c.field_of-field.ensures there.0) in
    let e = ap (λ t. length t.rows) c.index.ensures in
    let s = c.requires.row in
    omega (arith, m, n, e, s)

pub returns : goal.returns
returns c =
    let w = ap length (ap (λ t. t.types) c.self.view_is) in
    let k = ap length c.self.invariant.kinds ∙ length-map (arc_slice_items c.self.inside.fields) (type_in c.self.inside.parts.items) in
    let r = c.requires.column in
    let l : c.args.column < length (arc_slice_items c.self.inside.fields) = omega (arith, w, k, r) in
    let there = c.self.invariant.there c.args.column c.field_of-field.result l in
    c.cell.ensures
    ∙ cell-value c.self.invariant c.args.self.now (ap (λ t. t.rows) c.self.view_is) c.args.i c.args.column c.field_of-field.result c.index.result.now c.requires.row l c.field_of-field.ensures
    (rw c.field_of-field.ensures there.0) c.index.ensures
