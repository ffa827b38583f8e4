-- The spans of a plan are in the order of its nodes.
use Rattle.std.proofs.Common.{ℕ, suc, ◌≡◌, ◌≤◌, ◌+◌, ◌==◌, ◌&&◌, true, List, [], ◌∷◌, ◌++◌, length, refl, sym, ap, ◌∙◌, subst, arith, inl, inr, eqb-true, true≢false}
use Rattle.std.specs.List.{All, slice_index_or}
use Rattle.std.proofs.lemmas.Bool.{cases_lt}
use Rattle.std.proofs.lemmas.List.{get_or_past}
use Rattle.vx_rows_values.specs.Limits.{max_group_workers}
use Rattle.vx_plan_nodes.specs.Plan.{Plan, Size, one_worker, group_of, scan, unary, binary, exchange, size, size_eq}
use Rattle.vx_plan_nodes.specs.Numbering.{nodes, is_numbered, is_fit}
use Rattle.vx_plan_nodes.specs.Streams.{workers}
use Rattle.vx_plan_nodes.specs.Workers.{workers_below, IsWithin, worker_group_at}
use Rattle.vx_rows_values.proofs.Booleans.{and-left, and-right}
use Rattle.vx_exec_layout.specs.Layout.{spans_of}
use Rattle.vx_exec_layout.specs.Order.{made_with, made_after, AreInOrder}
use Rattle.vx_exec_layout.specs.declared.span.NodeSpan.{NodeSpan}
use Rattle.vx_exec_layout.proofs.Spans.{spans-count}

same-size : (x y : Size) → size_eq x y ≡ true → x ≡ y
same-size one_worker one_worker e = refl
same-size one_worker (group_of k) e = absurd (true≢false (sym e))
same-size (group_of j) one_worker e = absurd (true≢false (sym e))
same-size (group_of j) (group_of k) e = ap group_of (eqb-true j k e)

made-both : (made : ℕ) (xs ys : List NodeSpan) → made_after made (xs ++ ys) ≡ made_after (made_after made xs) ys
made-both made [] ys = refl
made-both made (s ∷ xs) ys = made-both (made_with made s) xs ys

-- with all nodes of a plan there are as many workers more as the plan has below its top fragment
pub made-by-plan : (sizes : ℕ → ℕ) (p : Plan) (top next : ℕ) → made_after next (spans_of sizes p top next) ≡ next + workers_below sizes p
made-by-plan sizes (scan n c r m z) top next = omega arith
made-by-plan sizes (unary n c op p) top next = made-by-plan sizes p top next
made-by-plan sizes (binary n c op p q) top next =
    let right = spans_of sizes q top (next + workers_below sizes p) in
    made-both next (spans_of sizes p top next) right ∙ ap (λ m. made_after m right) (made-by-plan sizes p top next)
    ∙ (made-by-plan sizes q top (next + workers_below sizes p) ∙ omega arith)
made-by-plan sizes (exchange n c k m p) top next = made-by-plan sizes p next (next + workers sizes (size p)) ∙ omega arith

order-both : (n made m later : ℕ) (xs ys : List NodeSpan) → m ≡ n + length xs → later ≡ made_after made xs → AreInOrder n made xs → AreInOrder m later ys
    → AreInOrder n made (xs ++ ys)
order-both n made m later [] ys em el h k = subst (λ v. AreInOrder v made ys) (omega (arith, em)) (subst (λ v. AreInOrder m v ys) el k)
order-both n made m later (s ∷ xs) ys em el h k = (h.0, h.1, order-both (suc n) (made_with made s) m later xs ys (omega (arith, em)) el h.2 k)

module _ (groups : List ℕ) (within : All (IsWithin 1 max_group_workers) groups) where
  pub workers-within : (z : Size) → IsWithin 1 max_group_workers (workers (worker_group_at groups) z)
  workers-within one_worker = (omega arith, omega arith)
  workers-within (group_of k) = elim (cases_lt k (length groups)) [
    | inl l ↦ within k 1 l
    | inr l ↦ let e : slice_index_or groups k 1 ≡ 1 = get_or_past groups k 1 l in (omega (arith, e), omega (arith, e))
  ]

  -- of a numbered plan in which the two inputs of a node have as many workers
  pub plan-in-order : (relation_of : ℕ → ℕ) (p : Plan) (i top next : ℕ) → is_numbered i p ≡ true → is_fit relation_of p ≡ true
      → top + workers (worker_group_at groups) (size p) ≤ next → AreInOrder i next (spans_of (worker_group_at groups) p top next)
  plan-in-order rel (scan n c r m z) i top next num fit there = let few = workers-within z in (eqb-true n i num, (there, few.0, few.1), tt)
  plan-in-order rel (unary n c op p) i top next num fit there = (tt, tt, plan-in-order rel p (suc i) top next (and-right (n == i) (is_numbered (suc i) p) num) fit there)
  plan-in-order rel (binary n c op p q) i top next num fit there =
      let g = worker_group_at groups in
      let left = spans_of g p top next in
      let numbers = and-right (n == i) (is_numbered (suc i) p && is_numbered (suc i + nodes p) q) num in
      let fits = and-right (size_eq (size p) (size q)) (is_fit rel p && is_fit rel q) fit in
      let same : workers g (size q) ≡ workers g (size p) =
      ap (workers g) (sym (same-size (size p) (size q) (and-left (size_eq (size p) (size q)) (is_fit rel p && is_fit rel q) fit))) in
      let count = spans-count g p top next in (
        tt,
        tt,
        order-both (suc i) next (suc i + nodes p) (next + workers_below g p) left (spans_of g q top (next + workers_below g p)) (omega (arith, count)) (sym (made-by-plan g p top next))
            (plan-in-order rel p (suc i) top next (and-left (is_numbered (suc i) p) (is_numbered (suc i + nodes p) q) numbers) (and-left (is_fit rel p) (is_fit rel q) fits) there)
            (plan-in-order rel q (suc i + nodes p) top (next + workers_below g p) (and-right (is_numbered (suc i) p) (is_numbered (suc i + nodes p) q) numbers)
            (and-right (is_fit rel p) (is_fit rel q) fits) (omega (arith, same, there))),
      )
  plan-in-order rel (exchange n c k m p) i top next num fit there = (
    eqb-true n i (and-left (n == i) (is_numbered (suc i) p) num),
    (refl, there),
    plan-in-order rel p (suc i) next (next + workers (worker_group_at groups) (size p)) (and-right (n == i) (is_numbered (suc i) p) num) fit (omega arith),
  )
