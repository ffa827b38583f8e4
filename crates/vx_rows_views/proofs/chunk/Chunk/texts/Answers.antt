use Rattle.std.proofs.Common.{◌≡◌, ◌<◌, arith, ap, sym, ◌∙◌, length}
use Rattle.std.specs.Arc.{arc_slice_items}
use Rattle.std.proofs.lemmas.List.{length-map}
use Rattle.vx_rows_values.specs.declared.value.ColType.TheVariants as kind
use Rattle.vx_rows_values.specs.Types.{type_at}
use Rattle.vx_rows_views.specs.Chunks.{type_in}
use Rattle.vx_rows_views.specs.Seen.{seen_positions}
use Rattle.vx_rows_views.specs.Selected.{AreTexts}
use Rattle.vx_rows_views.proofs.Chunked.{field-type, texts-of}
use Rattle.vx_rows_views.proofs.Maybe.{some_map, none_map}
use Rattle.vx_rows_views.proofs.chunk.Chunk.texts.Goals as goal

pub returns-clause-kind : goal.returns-clause-kind
returns-clause-kind c =
    let w = ap length (ap (λ t. t.types) c.self.view_is) in
    let k = ap length c.self.invariant.kinds ∙ length-map (arc_slice_items c.self.inside.fields) (type_in c.self.inside.parts.items) in
    let r = c.requires in
    let l : c.args.column < length (arc_slice_items c.self.inside.fields) = omega (arith, w, k, r) in
    let near = c.self.invariant.there c.args.column c.field_of-field.result l in
    let q : c.field_of-field.result.part < length c.self.inside.parts.items = rw c.field_of-field.ensures near.0 in
    let e = field-type c.self.invariant c.args.column c.field_of-field.result c.index.result.now l c.field_of-field.ensures q c.index.ensures ∙ ap (λ t. type_at t.types c.args.column) c.self.view_is in
    some_map (λ _. type_at c.index.result.now.types c.field_of-field.result.column ≡ kind.Text) (λ _. type_at c.args.self.now.types c.args.column ≡ kind.Text) c.texts.result
    (λ _ h. sym e ∙ h) c.texts.ensures.kind

pub returns-clause-none : goal.returns-clause-none
returns-clause-none c =
    let w = ap length (ap (λ t. t.types) c.self.view_is) in
    let k = ap length c.self.invariant.kinds ∙ length-map (arc_slice_items c.self.inside.fields) (type_in c.self.inside.parts.items) in
    let r = c.requires in
    let l : c.args.column < length (arc_slice_items c.self.inside.fields) = omega (arith, w, k, r) in
    let near = c.self.invariant.there c.args.column c.field_of-field.result l in
    let q : c.field_of-field.result.part < length c.self.inside.parts.items = rw c.field_of-field.ensures near.0 in
    let e = field-type c.self.invariant c.args.column c.field_of-field.result c.index.result.now l c.field_of-field.ensures q c.index.ensures ∙ ap (λ t. type_at t.types c.args.column) c.self.view_is in
    none_map c.texts.result (λ h. sym e ∙ h) c.texts.ensures.none

pub returns-clause-values : goal.returns-clause-values
returns-clause-values c =
    let w = ap length (ap (λ t. t.types) c.self.view_is) in
    let k = ap length c.self.invariant.kinds ∙ length-map (arc_slice_items c.self.inside.fields) (type_in c.self.inside.parts.items) in
    let r = c.requires in
    let l : c.args.column < length (arc_slice_items c.self.inside.fields) = omega (arith, w, k, r) in
    let near = c.self.invariant.there c.args.column c.field_of-field.result l in
    let q : c.field_of-field.result.part < length c.self.inside.parts.items = rw c.field_of-field.ensures near.0 in
    some_map (λ v. AreTexts v.0.now (seen_positions v.1) c.field_of-field.result.column c.index.result.now.rows) (λ v. AreTexts v.0.now (seen_positions v.1) c.args.column c.args.self.now.rows) c.texts.result
    (λ v h. texts-of c.self.invariant c.args.self.now (ap (λ t. t.rows) c.self.view_is) c.args.column c.field_of-field.result c.index.result.now l c.field_of-field.ensures q c.index.ensures v.0.now (seen_positions v.1) h)
    c.texts.ensures.values
