use Rattle.std.proofs.Common.{arith, ◌≡◌, ◌∙◌, ◌+◌, ◌<◌, ◌≤◌, ◌++◌, ◌∷◌, [], true, false, cond, ap, sym, subst, take, drop, length, append_assoc}
use Rattle.std.specs.Ordering.{is_gt, is_lt}
use Rattle.std.proofs.lemmas.List.{take_more, take-append-drop}
use Rattle.vx_rows_values.specs.Order.{sorted}
use Rattle.vx_rows.specs.View.{row}
use Rattle.vx_match_merging.specs.Keys.{directions, key_of, key_cmp}
use Rattle.vx_match_merging.specs.Merged.{HasMerged, state_at, last_key}
use Rattle.vx_match_merging.proofs.RiseFacts.{rise-front, last-push}
use Rattle.vx_match_merging.proofs.MergeFacts.{right-next}
use Rattle.vx_match_merging.proofs.key_run.run_of.Goals as goal
use Rattle.vx_match_merging.proofs.key_run.run_of.Goals.{then-is_gt, else-is_gt}

pub loop-end-preserved : goal.loop-end-preserved
loop-end-preserved c =
    let inv = c.loop-end.invariant in
    let lefts = c.args.left_order.now in
    let rights = c.args.right_order.now in
    let ws = c.args.right.now.rows in
    let l = row c.args.left.now c.args.i in
    let at = c.loop-end.end in
    let o = c.compare_rows-order.result in
    let test = c.loop-end-test.true in
    let near : at < length ws = omega (arith, test, c.len-end-end.ensures) in
    let below : is_lt o ≡ false = sym c.is_lt.ensures ∙ c.if-is_lt.false in
    let start : c.if-is_gt.start ≡ cond (is_gt o) (at + 1) c.loop-end.start = elim c.if-is_gt.branch [
      | then-is_gt w ↦ w.start-is ∙ ap (λ b. cond b (at + 1) c.loop-end.start) (sym (sym c.is_gt.ensures ∙ w.if-is_gt.true))
      | else-is_gt w ↦ w.start-is ∙ ap (λ b. cond b (at + 1) c.loop-end.start) (sym (sym c.is_gt.ensures ∙ w.if-is_gt.false))
    ] in
    let low : c.if-is_gt.start ≤ at + 1 = elim c.if-is_gt.branch [
      | then-is_gt w ↦ let s = w.start-is in omega (arith, s)
      | else-is_gt w ↦ let s = w.start-is in let p = inv.order in omega (arith, s, p)
    ] in
    record {
      order = low;
      taken = λ ls passed rise merged.
          let key : last_key lefts (ls ++ l ∷ []) ≡ key_of lefts l = last-push lefts ls l in
          let order : o ≡ key_cmp (directions lefts) (last_key lefts (ls ++ l ∷ [])) (key_of rights (row c.args.right.now at)) =
          c.compare_rows-order.ensures ∙ ap (λ k. key_cmp (directions lefts) k (key_of rights (row c.args.right.now at))) (sym key) in
          let more : take (at + 1) ws ≡ take at ws ++ row c.args.right.now at ∷ [] = take_more ws at [] near in
          let whole : (passed ++ take at ws) ++ row c.args.right.now at ∷ [] ≡ passed ++ take (at + 1) ws =
          append_assoc passed (take at ws) (row c.args.right.now at ∷ []) ∙ ap (λ xs. passed ++ xs) (sym more) in
          let all : (passed ++ take (at + 1) ws) ++ drop (at + 1) ws ≡ passed ++ ws =
          append_assoc passed (take (at + 1) ws) (drop (at + 1) ws) ∙ ap (λ xs. passed ++ xs) (take-append-drop (at + 1) ws) in
          let front : sorted rights ((passed ++ take at ws) ++ row c.args.right.now at ∷ []) ≡ true =
          ap (sorted rights) whole ∙ rise-front rights (passed ++ take (at + 1) ws) (drop (at + 1) ws) (ap (sorted rights) all ∙ rise) in
          subst (HasMerged (state_at lefts rights (ls ++ l ∷ []) passed c.if-is_gt.start (at + 1)) (ls ++ l ∷ [])) whole
          (right-next lefts rights (ls ++ l ∷ []) passed (passed ++ take at ws) c.loop-end.start at (inv.taken ls passed rise merged) (row c.args.right.now at) o c.if-is_gt.start order below start front);
    }
