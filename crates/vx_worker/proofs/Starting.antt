-- What a worker to which nothing came has to do.
use Rattle.std.proofs.Common.{ℕ, zero, suc, ◌≡◌, ◌+◌, ◌≤◌, cond, Bool, false, refl, ap, arith, le_refl, le_trans, add-le-add, None}
use Rattle.std.proofs.Math.Nat.{mul-le-mul_left}
use Rattle.vx_ops.specs.Ledger.{Op}
use Rattle.vx_ops.specs.Turn.{Coming, IsWithin, sum_below}
use Rattle.vx_exchange_ends.specs.Tasks.{Post}
use Rattle.vx_exchange_ends.specs.Queued.{consumers_of}
use Rattle.vx_worker.specs.Trees.{shape, LeavesComing, leaf_coming, tree_coming, tree_most, tree_idle}
use Rattle.vx_worker.specs.Remaining.{frag_most, frag_idle, TreeStarts, pending_count, pending_rows, steps_left_in, rows_left_in, rows_held_in, Starts}
use Rattle.vx_worker.specs.declared.tree.Tree.{Tree, Leaf, One', Two'}
use Rattle.vx_worker.specs.declared.worker.Worker.{Worker}
use Rattle.vx_worker.specs.declared.worker.WorkerState.TheVariants.{Running}
use Rattle.vx_worker.proofs.TreeCosts.{within-trees}

sum-none : (n : ℕ) (f : ℕ → ℕ) → ((j : ℕ) → f j ≡ 0) → sum_below n f ≡ 0
sum-none zero f h = refl
sum-none (suc n) f h = let a = sum-none n f h in let b = h n in omega (arith, a, b)

module _ {O : Type 0} (op : O → Op) (most idle_turns : O → Coming → ℕ) (most-grows : (o : O) (a b : Coming) → IsWithin a b → most o a ≤ most o b)
    (idle-grows : (o : O) (a b : Coming) → IsWithin a b → idle_turns o a ≤ idle_turns o b) where
  -- a tree may give no more than its kinds of operators do
  tree-most-few : (t : Tree O) → TreeStarts op most idle_turns t → (c : LeavesComing) → tree_most most t c ≤ frag_most (shape op t) c
  tree-most-few (Leaf k o) h c = h.rows (leaf_coming k c)
  tree-most-few (One' o p t) h c =
      le_trans (most-grows o _ _ (within-trees (tree_most most t c) 0 (frag_most (shape op t) c) 0 (tree-most-few t h.1 c) (le_refl 0))) (h.0.rows (tree_coming (frag_most (shape op t) c) 0))
  tree-most-few (Two' o p a q b) h c =
      le_trans (most-grows o _ _ (within-trees (tree_most most a c) (tree_most most b c) (frag_most (shape op a) c) (frag_most (shape op b) c) (tree-most-few a h.1 c) (tree-most-few b h.2 c)))
      (h.0.rows (tree_coming (frag_most (shape op a) c) (frag_most (shape op b) c)))

  -- nor be idle more often
  tree-idle-few : (t : Tree O) → TreeStarts op most idle_turns t → (c : LeavesComing) → tree_idle most idle_turns t c ≤ frag_idle (shape op t) c
  tree-idle-few (Leaf k o) h c = h.turns (leaf_coming k c)
  tree-idle-few (One' o p t) h c =
      let few = tree-most-few t h.1 c in
      add-le-add (le_trans (idle-grows o _ _ (within-trees (tree_most most t c) 0 (frag_most (shape op t) c) 0 few (le_refl 0))) (h.0.turns (tree_coming (frag_most (shape op t) c) 0)))
      (add-le-add few (tree-idle-few t h.1 c))
  tree-idle-few (Two' o p a q b) h c =
      let left = tree-most-few a h.1 c in
      let right = tree-most-few b h.2 c in
      add-le-add
      (add-le-add (le_trans (idle-grows o _ _ (within-trees (tree_most most a c) (tree_most most b c) (frag_most (shape op a) c) (frag_most (shape op b) c) left right))
      (h.0.turns (tree_coming (frag_most (shape op a) c) (frag_most (shape op b) c))))
      (add-le-add left (tree-idle-few a h.1 c)))
      (add-le-add right (tree-idle-few b h.2 c))

  -- a worker has no more to do than its tree and its consumers make it
  pub begins-few : {S : Type 0} (post : S → Post) (held : S → ℕ → ℕ) (unclosed : S → ℕ) (w : Worker O S) → w.phase ≡ Running → w.pending ≡ None → w.is_over ≡ false
      → unclosed w.sender ≤ consumers_of (post w.sender) → TreeStarts op most idle_turns w.tree → ((j : ℕ) → held w.sender j ≡ 0) → Starts most idle_turns post held unclosed (shape op w.tree) w
  begins-few post held unclosed w runs empty on few starts none =
      let n = consumers_of (post w.sender) in
      record {
        steps = λ c.
            let a = ap (λ z. steps_left_in most idle_turns post held unclosed z w c) runs in
            let b = mul-le-mul_left (n + 1) (tree-most-few w.tree starts c) in
            let d = tree-idle-few w.tree starts c in
            let e = sum-none n (held w.sender) none in
            let k : pending_count w.pending ≡ 0 = ap pending_count empty in
            let rest : Bool → ℕ = λ i. cond i 0 1 in
            let o : rest w.is_over ≡ rest false = ap rest on in
            omega (arith, a, b, d, e, k, o, few);
        rows = λ c j.
            let a = ap (λ z. rows_left_in most idle_turns post held unclosed z w c) runs in
            let b = ap (λ z. rows_held_in most idle_turns post held unclosed z w j) runs in
            let d = tree-most-few w.tree starts c in
            let k : pending_rows w.pending j ≡ 0 = ap (λ z. pending_rows z j) empty in
            let e = none j in
            omega (arith, a, b, d, k, e);
      }
