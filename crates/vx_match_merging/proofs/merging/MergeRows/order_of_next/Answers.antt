use Rattle.std.proofs.Common.{◌≡◌, ◌∙◌, ◌-◌, ◌<◌, length, ap, sym, arith}
use Rattle.std.specs.Ordering.{nat_cmp}
use Rattle.std.specs.Vec.{vec_len}
use Rattle.vx_rows.specs.View.{row}
use Rattle.vx_match_merging.specs.Keys.{directions, key_of, key_cmp}
use Rattle.vx_match_merging.specs.Merged.{MergeView, last_key}
use Rattle.vx_match_merging.proofs.KeyOrder.{empty-compares}
use Rattle.vx_match_merging.proofs.MergeCalls.{last-at, not-empty}
use Rattle.vx_match_merging.proofs.merging.MergeRows.order_of_next.Goals as goal

pub returns-then-is_empty : goal.returns-then-is_empty
returns-then-is_empty c =
    let by = c.self.inside.left_order.items in
    let y = row c.args.batch.now 0 in
    let many : vec_len c.self.inside.left_order ≡ length by = omega (arith, c.self.inside.left_order.ok.0) in
    let none = c.is_empty.ensures.0 c.if-is_empty.true in
    empty-compares by y c.cmp.result (c.cmp.ensures ∙ ap (nat_cmp 0) (c.len.ensures ∙ many))
    ∙ (ap (λ rows. key_cmp (directions by) (last_key by rows) (key_of by y)) (sym none)
    ∙ ap (λ (s : MergeView). key_cmp (directions s.lefts) (last_key s.lefts s.left.rows) (key_of s.lefts y)) c.self.view_is)

pub returns : goal.returns
returns c =
    let t = c.self.inside.left in
    let by = c.self.inside.left_order.items in
    let y = row c.args.batch.now 0 in
    let some : 0 < length t.rows = not-empty t.rows c.is_empty.result c.is_empty.ensures c.if-is_empty.false in
    c.compare_rows.ensures
    ∙ ((λ i. key_cmp (directions (c.deref.ensures.value i)) (key_of (c.deref.ensures.value i) (row t (c.len-2.ensures i - 1))) (key_of (c.deref-2.ensures.value i) y))
    ∙ (ap (λ k. key_cmp (directions by) k (key_of by y)) (sym (last-at by t some))
    ∙ ap (λ (s : MergeView). key_cmp (directions s.lefts) (last_key s.lefts s.left.rows) (key_of s.lefts y)) c.self.view_is))
