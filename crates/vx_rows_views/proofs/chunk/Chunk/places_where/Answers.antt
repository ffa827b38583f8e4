use Rattle.std.proofs.Common.{◌≡◌, ◌<◌, arith, ap, ◌∙◌, length, map}
use Rattle.std.specs.Arc.{arc_slice_items}
use Rattle.vx_rows_views.proofs.Chunked.{column-value}
use Rattle.vx_rows_views.proofs.Found.{some-moved, each-moved}
use Rattle.std.proofs.lemmas.List.{length-map}
use Rattle.vx_rows_views.specs.Chunks.{type_in}
use Rattle.vx_rows_values.specs.Values.{value_at}
use Rattle.vx_rows_views.specs.Selected.{of_number}
use Rattle.vx_rows_views.proofs.chunk.Chunk.places_where.Given.{Over}
use Rattle.vx_rows_views.proofs.chunk.Chunk.places_where.Goals as goal

values : (g : Over) (c : goal.After-places_where g) → map (λ r. value_at r c.field_of-field.result.column) c.index.result.now.rows ≡ map (λ r. value_at r c.args.column) c.args.self.now.rows
values g c =
    let w = ap length (ap (λ t. t.types) c.self.view_is) in
    let k = ap length c.self.invariant.kinds ∙ length-map (arc_slice_items c.self.inside.fields) (type_in c.self.inside.parts.items) in
    let r = c.requires.column in
    let l : c.args.column < length (arc_slice_items c.self.inside.fields) = omega (arith, w, k, r) in
    let near = c.self.invariant.there c.args.column c.field_of-field.result l in
    column-value c.self.invariant c.args.self.now (ap (λ t. t.rows) c.self.view_is) c.args.column c.field_of-field.result c.index.result.now l c.field_of-field.ensures (rw c.field_of-field.ensures near.0) c.index.ensures

pub returns-clause-some : goal.returns-clause-some
returns-clause-some g c =
    some-moved (of_number (g.T.NumberTest.says c.args.test.now)) (λ r. value_at r c.field_of-field.result.column) (λ r. value_at r c.args.column) c.index.result.now.rows c.args.self.now.rows
    c.places_where.result (values g c) c.places_where.ensures.some

pub returns-clause-all : goal.returns-clause-all
returns-clause-all g c =
    each-moved (of_number (g.T.NumberTest.says c.args.test.now)) (λ r. value_at r c.field_of-field.result.column) (λ r. value_at r c.args.column) c.index.result.now.rows c.args.self.now.rows
    c.places_where.result (values g c) c.places_where.ensures.all
