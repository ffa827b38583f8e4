use Rattle.std.proofs.Common.{arith, ◌≡◌, ◌∙◌, ◌+◌, ◌<◌, ◌≤◌, ◌++◌, ◌∷◌, [], ℕ, List, ap, sym, map, slice_range, append_assoc, length, subst}
use Rattle.std.proofs.lemmas.List.{map-append, length-append}
use Rattle.std.proofs.lemmas.List.Elements.{All-append, All-cons, All-nil}
use Rattle.vx_rows_values.specs.Values.{Row}
use Rattle.vx_rows.specs.View.{RowsView, row, ArePositions}
use Rattle.vx_ops_kernels.proofs.Runs.{longer-run}
use Rattle.vx_match_merging.specs.Merged.{rows_at}
use Rattle.vx_match_merging.proofs.BesideFacts.{one-pair}
use Rattle.vx_match_merging.proofs.side_by_side.add_pairs.Goals as goal

pushed : (n i : ℕ) (xs ys : List ℕ) → ys ≡ xs ++ i ∷ [] → i < n → ArePositions n xs → ArePositions n ys
pushed n i xs ys e l h = subst (ArePositions n) (sym e) (All-append (λ k. k < n) xs (i ∷ []) h (All-cons (λ k. k < n) i [] l (All-nil (λ k. k < n))))

one-more : (a b : RowsView) (ls rs ls' rs' : List ℕ) (zs : List Row) (i from to : ℕ) → length ls ≡ length rs → ls' ≡ ls ++ i ∷ [] → rs' ≡ rs ++ to ∷ [] → from ≤ to → to < length b.rows
    → rows_at a b ls rs ≡ zs ++ map (λ r. row a i ++ r) (slice_range b.rows from to) → rows_at a b ls' rs' ≡ zs ++ map (λ r. row a i ++ r) (slice_range b.rows from (to + 1))
one-more a b ls rs ls' rs' zs i from to many e f order near h =
    let g = λ (r : Row). row a i ++ r in
    let run = slice_range b.rows from to in
    let y = row b to in
    let more : slice_range b.rows from (to + 1) ≡ run ++ y ∷ [] = longer-run b.rows from to [] order near in
    (λ j. rows_at a b (e j) (f j))
    ∙ (one-pair a b ls rs i to many
    ∙ (ap (λ l. l ++ g y ∷ []) h ∙ (append_assoc zs (map g run) (g y ∷ []) ∙ ap (λ l. zs ++ l) (sym (ap (map g) more ∙ map-append g run (y ∷ []))))))

pub loop-other-preserved : goal.loop-other-preserved
loop-other-preserved c =
    let inv = c.loop-other.invariant in
    let i = c.args.place in
    let j = c.loop-other.other in
    let test = c.loop-other-test.true in
    let low = c.loop-other.auto.other in
    let ls = c.loop-other.pairs.left.items in
    let rs = c.loop-other.pairs.right.items in
    let e : c.push.new.self.items ≡ ls ++ i ∷ [] = c.in_ok-push.ensures.items in
    let f : c.push-in-loop-other.new.self.items ≡ rs ++ j ∷ [] = c.in_ok-push-2.ensures.items in
    let m = inv.many in
    record {
      count = let was = inv.count in let one = ap length e ∙ length-append ls (i ∷ []) in omega (arith, was, one, low);
      many = ap length e ∙ (length-append ls (i ∷ []) ∙ (ap (λ n. n + 1) m ∙ sym (ap length f ∙ length-append rs (j ∷ []))));
      left = λ n l h. pushed n i ls c.push.new.self.items e l (inv.left n l h);
      right = λ n l h. pushed n j rs c.push-in-loop-other.new.self.items f (omega (arith, test, l)) (inv.right n l h);
      rows = λ a b there. one-more a b ls rs c.push.new.self.items c.push-in-loop-other.new.self.items (rows_at a b c.args.pairs.now.left.items c.args.pairs.now.right.items) i c.args.from j m e f low (omega (arith, test, there)) (inv.rows a b there);
    }
