use Rattle.std.proofs.Common.{◌≡◌, ℕ, arith, ap, subst, length}
use Rattle.std.specs.Arc.{arc_slice_items}
use Rattle.vx_rows.specs.Lists.{each_below}
use Rattle.vx_rows_views.specs.Chunks.{row_in, IsChunk}
use Rattle.vx_rows_views.proofs.Chunked.{count-is}
use Rattle.vx_rows_views.proofs.Joined.{beside-is, beside-rows}
use Rattle.vx_rows_views.proofs.chunk.Chunk.beside.Goals as goal

pub invariant_of-result : goal.invariant_of-result
invariant_of-result c =
    let m = count-is c.left.invariant c.args.left (ap (λ t. t.rows) c.left.view_is) in
    let n = count-is c.right.invariant c.args.right (ap (λ t. t.rows) c.right.view_is) in
    let same : c.right.inside.count ≡ c.left.inside.count = omega (arith, m, n, c.requires) in
    let b = subst (λ (i : ℕ). IsChunk (arc_slice_items c.right.inside.types) c.right.inside.parts.items (arc_slice_items c.right.inside.fields) i) same c.right.invariant in
    let before : c.len-before.result ≡ length c.left.inside.parts.items = omega (arith, c.len-before.ensures, c.left.inside.parts.ok.0) in
    rw (c.in_ok-types.ensures, c.as_slice.ensures.value, c.as_slice-2.ensures.value, c.in_ok-append.ensures.items, c.in_ok-fields.ensures, c.as_slice-3.ensures.value, c.as_slice-4.ensures.value, before)
    (beside-is c.left.inside.parts.items c.right.inside.parts.items c.left.invariant b)

pub returns-clause-rows : goal.returns-clause-rows
returns-clause-rows c =
    let m = count-is c.left.invariant c.args.left (ap (λ t. t.rows) c.left.view_is) in
    let n = count-is c.right.invariant c.args.right (ap (λ t. t.rows) c.right.view_is) in
    let same : c.right.inside.count ≡ c.left.inside.count = omega (arith, m, n, c.requires) in
    let b = subst (λ (i : ℕ). IsChunk (arc_slice_items c.right.inside.types) c.right.inside.parts.items (arc_slice_items c.right.inside.fields) i) same c.right.invariant in
    let e = subst (λ (i : ℕ). each_below i (row_in c.right.inside.parts.items (arc_slice_items c.right.inside.fields)) ≡ c.args.right.rows) same (ap (λ t. t.rows) c.right.view_is) in
    let before : c.len-before.result ≡ length c.left.inside.parts.items = omega (arith, c.len-before.ensures, c.left.inside.parts.ok.0) in
    rw (c.in_ok-append.ensures.items, c.in_ok-fields.ensures, c.as_slice-3.ensures.value, c.as_slice-4.ensures.value, before)
    (beside-rows c.left.inside.parts.items c.right.inside.parts.items c.left.invariant b c.args.left.rows c.args.right.rows (ap (λ t. t.rows) c.left.view_is) e)
