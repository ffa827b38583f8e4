-- What a turn of a tree costs.
use Rattle.std.proofs.Common.{◌≡◌, ℕ, ◌+◌, ◌≤◌, ◌==◌, true, inl, inr, refl, subst, arith, le_refl, add-le-add, List, Option}
use Rattle.vx_ports.specs.Packets.{PacketView}
use Rattle.std.proofs.lemmas.Bool.Decides.{nat_tests, eqb_tells}
use Rattle.vx_rows_values.specs.declared.value.ColType.{ColType}
use Rattle.vx_ops.specs.Turn.{Coming, IsWithin, GivesRows, Pays, own_turn, idle_turn, rows_in, packet_rows, with_more, with_rows}
use Rattle.vx_ops.specs.declared.turn.Want.{Want}
use Rattle.vx_ops.specs.declared.turn.Want.TheVariants as want
use Rattle.vx_ops.specs.declared.turn.Got.{Got}
use Rattle.vx_ops.specs.declared.turn.Got.TheVariants as got
use Rattle.vx_ops.specs.declared.turn.Polled.{Polled}
use Rattle.vx_ops.specs.declared.turn.Polled.TheVariants as polled
use Rattle.vx_ops.proofs.Costs.{idle-most, own-few}
use Rattle.vx_worker.specs.Trees.{LeavesComing, IsWithinLeaves, leaf_coming, tree_coming, tree_most, tree_idle}
use Rattle.vx_worker.specs.Wishes.{with_read, one_want, two_want}
use Rattle.vx_worker.specs.declared.tree.Tree.{Tree, Leaf, One', Two'}
use Rattle.vx_worker.specs.declared.wish.Wish.{Wish}
use Rattle.vx_worker.specs.declared.wish.Wish.TheVariants as wish

same-leaf : (k : ℕ) → (k == k) ≡ true
same-leaf k = grind (arith, nat_tests)

pub within-trees : (a b c d : ℕ) → a ≤ c → b ≤ d → IsWithin (tree_coming a b) (tree_coming c d)
within-trees a b c d h k = record { left = h; right = k; packets = λ i. le_refl 0 }

module _ {O : Type 0} (most idle : O → Coming → ℕ) (most-grows : (o : O) (a b : Coming) → IsWithin a b → most o a ≤ most o b) where
  -- where less may still come to the leaves, a tree may give no more
  pub tree-most-grows : (t : Tree O) (a b : LeavesComing) → IsWithinLeaves a b → tree_most most t a ≤ tree_most most t b
  tree-most-grows (Leaf k o) a b h = most-grows o (leaf_coming k a) (leaf_coming k b) (record { left = h.scanned k; right = le_refl 0; packets = h.came k })
  tree-most-grows (One' o p t) a b h = most-grows o _ _ (within-trees (tree_most most t a) 0 (tree_most most t b) 0 (tree-most-grows t a b h) (le_refl 0))
  tree-most-grows (Two' o p x q y) a b h =
      most-grows o _ _ (within-trees (tree_most most x a) (tree_most most y a) (tree_most most x b) (tree_most most y b) (tree-most-grows x a b h) (tree-most-grows y a b h))

  -- nor be idle more often
  pub tree-idle-grows : ((o : O) (a b : Coming) → IsWithin a b → idle o a ≤ idle o b) → (t : Tree O) (a b : LeavesComing) → IsWithinLeaves a b → tree_idle most idle t a ≤ tree_idle most idle t b
  tree-idle-grows grows (Leaf k o) a b h = grows o (leaf_coming k a) (leaf_coming k b) (record { left = h.scanned k; right = le_refl 0; packets = h.came k })
  tree-idle-grows grows (One' o p t) a b h =
      add-le-add (grows o _ _ (within-trees (tree_most most t a) 0 (tree_most most t b) 0 (tree-most-grows t a b h) (le_refl 0)))
      (add-le-add (tree-most-grows t a b h) (tree-idle-grows grows t a b h))
  tree-idle-grows grows (Two' o p x q y) a b h =
      add-le-add
      (add-le-add (grows o _ _ (within-trees (tree_most most x a) (tree_most most y a) (tree_most most x b) (tree_most most y b) (tree-most-grows x a b h) (tree-most-grows y a b h)))
      (add-le-add (tree-most-grows x a b h) (tree-idle-grows grows x a b h)))
      (add-le-add (tree-most-grows y a b h) (tree-idle-grows grows y a b h))

pub more-than : (i n j : ℕ) (f : ℕ → ℕ) → f j ≤ with_more i n f j
more-than i n j f = elim (eqb_tells j i) [ inl e ↦ rw e.0 (omega arith) | inr e ↦ rw e.0 (omega arith) ]

pub within-self : (c : LeavesComing) → IsWithinLeaves c c
within-self c = record { scanned = λ k. le_refl (c.scanned k); came = λ k i. le_refl (c.came k i) }

-- what came might still come before
pub read-more : (w : Wish) (g : Got) (c : LeavesComing) → IsWithinLeaves c (with_read w g c)
read-more (wish.Morsel k) (got.Input p) c = record { scanned = λ j. more-than k (rows_in p) j c.scanned; came = λ j i. le_refl (c.came j i) }
read-more (wish.Packet k i) (got.Packet o) c = record {
  scanned = λ j. le_refl (c.scanned j);
  came = λ j z. elim (eqb_tells j k) [ inl e ↦ rw e.0 (more-than i (packet_rows o) z (c.came j)) | inr e ↦ rw e.0 (le_refl (c.came j z)) ];
}
read-more wish.Nothing g c = within-self c
read-more (wish.Morsel k) got.Nothing c = within-self c
read-more (wish.Morsel k) (got.Packet o) c = within-self c
read-more (wish.Packet k i) got.Nothing c = within-self c
read-more (wish.Packet k i) (got.Input p) c = within-self c

-- what comes to a leaf
pub leaf-morsel : (k : ℕ) (p : Polled) (c : LeavesComing) → leaf_coming k (with_read (wish.Morsel k) (got.Input p) c) ≡ with_rows want.Morsel (got.Input p) (leaf_coming k c)
leaf-morsel k p c = rw (same-leaf k) refl

pub leaf-packet : (k i : ℕ) (o : Option PacketView) (c : LeavesComing)
    → leaf_coming k (with_read (wish.Packet k i) (got.Packet o) c) ≡ with_rows (want.Packet i) (got.Packet o) (leaf_coming k c)
leaf-packet k i o c = rw (same-leaf k) refl

one-most : (own : ℕ) (p : Polled) → own ≤ 1 → idle_turn own p ≤ idle_turn 1 p
one-most own (polled.Gave t) few = le_refl 0
one-most own polled.Waiting few = few
one-most own polled.End few = le_refl 0
one-most own (polled.Fault f) few = le_refl 0

-- a turn of an operator after one of a tree below it: rows that it was given are paid below, and so is a turn in which nothing came
pub above-pays : (g : Got) (input result : Polled) (types : List ColType) (tm ti tm' ti' m i m1 i1 m' i' : ℕ) → GivesRows types input → Pays (own_turn g) tm ti tm' ti' input
    → m1 ≤ m → i1 ≤ i → Pays (own_turn (got.Input input)) m1 i1 m' i' result → Pays (own_turn g) m (i + (tm + ti)) m' (i' + (tm' + ti')) result
above-pays g (polled.Gave t) result types tm ti tm' ti' m i m1 i1 m' i' gives below most idles top =
    let some = gives.1 in
    let a = below.rows in
    let b = below.turns in
    let x = top.rows in
    let y = top.turns in
    let few = own-few g in
    let cost = idle-most (own_turn g) result in
    record { rows = omega (arith, x, most); turns = omega (arith, some, a, b, y, idles, few, cost) }
above-pays g polled.Waiting result types tm ti tm' ti' m i m1 i1 m' i' gives below most idles top =
    let a = below.rows in
    let b = below.turns in
    let x = top.rows in
    let y = top.turns in
    let cost = idle-most (own_turn g) result in
    record { rows = omega (arith, x, most); turns = omega (arith, a, b, y, idles, cost) }
above-pays g polled.End result types tm ti tm' ti' m i m1 i1 m' i' gives below most idles top =
    let a = below.rows in
    let b = below.turns in
    let x = top.rows in
    let y = top.turns in
    let cost = one-most (own_turn g) result (own-few g) in
    record { rows = omega (arith, x, most); turns = omega (arith, a, b, y, idles, cost) }
above-pays g (polled.Fault f) result types tm ti tm' ti' m i m1 i1 m' i' gives below most idles top =
    let a = below.rows in
    let b = below.turns in
    let x = top.rows in
    let y = top.turns in
    let cost = one-most (own_turn g) result (own-few g) in
    record { rows = omega (arith, x, most); turns = omega (arith, a, b, y, idles, cost) }

module _ {O : Type 0} (most idle : O → Coming → ℕ) (most-grows : (o : O) (a b : Coming) → IsWithin a b → most o a ≤ most o b) (idle-grows : (o : O) (a b : Coming) → IsWithin a b → idle o a ≤ idle o b) where
  -- what a turn of one tree costs, and of the operator above it
  abbrev pub TreePays : Wish → Got → LeavesComing → (t t' : Tree O) → Polled → Type 0
  TreePays w g c t t' p =
      Pays (own_turn g) (tree_most most t (with_read w g c)) (tree_idle most idle t (with_read w g c)) (tree_most most t' c) (tree_idle most idle t' c) p

  abbrev pub OpPays : Want → (input : Polled) → (o o' : O) → Polled → Type 0
  OpPays v input o o' p =
      (k : Coming) → Pays (own_turn (got.Input input)) (most o (with_rows v (got.Input input) k)) (idle o (with_rows v (got.Input input) k)) (most o' k) (idle o' k) p

  abbrev pub above : (o : O) → (t : Tree O) → LeavesComing → ℕ
  above o t d = idle o (tree_coming (tree_most most t d) 0) + (tree_most most t d + tree_idle most idle t d)

  -- an operator above one tree
  pub one-pays : (v : Want) (w : Wish) (o o' : O) (t t' : Tree O) (g : Got) (input result : Polled) (types : List ColType) (c : LeavesComing) → want.Left ≡ v → GivesRows types input
      → TreePays w g c t t' input → OpPays v input o o' result
      → Pays (own_turn g) (most o (tree_coming (tree_most most t (with_read (one_want v w) g c)) 0)) (above o t (with_read (one_want v w) g c)) (most o' (tree_coming (tree_most most t' c) 0)) (above o' t' c) result
  one-pays v w o o' t t' g input result types c e gives below top =
      let d = with_read w g c in
      let tm = tree_most most t d in
      let tm' = tree_most most t' c in
      let k = tree_coming tm' 0 in
      let more : IsWithin (with_rows want.Left (got.Input input) k) (tree_coming tm 0) = within-trees (tm' + rows_in input) 0 tm 0 below.rows (le_refl 0) in
      let P : Want → Type 0 = λ u.
      OpPays u input o o' result
      → Pays (own_turn g) (most o (tree_coming (tree_most most t (with_read (one_want u w) g c)) 0)) (above o t (with_read (one_want u w) g c)) (most o' (tree_coming (tree_most most t' c) 0)) (above o' t' c) result in
      subst P e (λ at.
      above-pays g input result types tm (tree_idle most idle t d) tm' (tree_idle most idle t' c) (most o (tree_coming tm 0)) (idle o (tree_coming tm 0)) _ _ (most o' k) (idle o' k) gives below
      (most-grows o (with_rows want.Left (got.Input input) k) (tree_coming tm 0) more) (idle-grows o (with_rows want.Left (got.Input input) k) (tree_coming tm 0) more) (at k)) top

  abbrev pub between : (o : O) → (a b : Tree O) → LeavesComing → ℕ
  between o a b d = idle o (tree_coming (tree_most most a d) (tree_most most b d)) + (tree_most most a d + tree_idle most idle a d) + (tree_most most b d + tree_idle most idle b d)

  still-less : (t : Tree O) (w : Wish) (g : Got) (c : LeavesComing) → (tree_most most t c ≤ tree_most most t (with_read w g c)) × (tree_idle most idle t c ≤ tree_idle most idle t (with_read w g c))
  still-less t w g c = (tree-most-grows most idle most-grows t c (with_read w g c) (read-more w g c), tree-idle-grows most idle most-grows idle-grows t c (with_read w g c) (read-more w g c))

  -- an operator above two, of which the left one took a turn
  pub left-pays : (v : Want) (w z : Wish) (o o' : O) (a a' b : Tree O) (g : Got) (input result : Polled) (types : List ColType) (c : LeavesComing) → want.Left ≡ v → GivesRows types input
      → TreePays w g c a a' input → OpPays v input o o' result
      → Pays (own_turn g) (most o (tree_coming (tree_most most a (with_read (two_want v w z) g c)) (tree_most most b (with_read (two_want v w z) g c)))) (between o a b (with_read (two_want v w z) g c))
      (most o' (tree_coming (tree_most most a' c) (tree_most most b c))) (between o' a' b c) result
  left-pays v w z o o' a a' b g input result types c e gives below top =
      let d = with_read w g c in
      let tm = tree_most most a d in
      let tm' = tree_most most a' c in
      let other = still-less b w g c in
      let k = tree_coming tm' (tree_most most b c) in
      let all = tree_coming tm (tree_most most b d) in
      let more : IsWithin (with_rows want.Left (got.Input input) k) all = within-trees (tm' + rows_in input) (tree_most most b c) tm (tree_most most b d) below.rows other.0 in
      let P : Want → Type 0 = λ u.
      OpPays u input o o' result
      → Pays (own_turn g) (most o (tree_coming (tree_most most a (with_read (two_want u w z) g c)) (tree_most most b (with_read (two_want u w z) g c)))) (between o a b (with_read (two_want u w z) g c))
      (most o' (tree_coming (tree_most most a' c) (tree_most most b c))) (between o' a' b c) result in
      subst P e (λ at.
      let h : Pays (own_turn g) (most o all) (idle o all + (tm + tree_idle most idle a d)) (most o' k) (idle o' k + (tm' + tree_idle most idle a' c)) result =
      above-pays g input result types tm (tree_idle most idle a d) tm' (tree_idle most idle a' c) (most o all) (idle o all) _ _ (most o' k) (idle o' k) gives below
      (most-grows o (with_rows want.Left (got.Input input) k) all more) (idle-grows o (with_rows want.Left (got.Input input) k) all more) (at k) in
      let x = h.rows in
      let y = h.turns in
      let p = other.0 in
      let q = other.1 in
      record { rows = x; turns = omega (arith, y, p, q) }) top

  -- or the right one
  pub right-pays : (v : Want) (w z : Wish) (o o' : O) (a b b' : Tree O) (g : Got) (input result : Polled) (types : List ColType) (c : LeavesComing) → want.Right ≡ v → GivesRows types input
      → TreePays z g c b b' input → OpPays v input o o' result
      → Pays (own_turn g) (most o (tree_coming (tree_most most a (with_read (two_want v w z) g c)) (tree_most most b (with_read (two_want v w z) g c)))) (between o a b (with_read (two_want v w z) g c))
      (most o' (tree_coming (tree_most most a c) (tree_most most b' c))) (between o' a b' c) result
  right-pays v w z o o' a b b' g input result types c e gives below top =
      let d = with_read z g c in
      let tm = tree_most most b d in
      let tm' = tree_most most b' c in
      let other = still-less a z g c in
      let k = tree_coming (tree_most most a c) tm' in
      let all = tree_coming (tree_most most a d) tm in
      let more : IsWithin (with_rows want.Right (got.Input input) k) all = within-trees (tree_most most a c) (tm' + rows_in input) (tree_most most a d) tm other.0 below.rows in
      let P : Want → Type 0 = λ u.
      OpPays u input o o' result
      → Pays (own_turn g) (most o (tree_coming (tree_most most a (with_read (two_want u w z) g c)) (tree_most most b (with_read (two_want u w z) g c)))) (between o a b (with_read (two_want u w z) g c))
      (most o' (tree_coming (tree_most most a c) (tree_most most b' c))) (between o' a b' c) result in
      subst P e (λ at.
      let h : Pays (own_turn g) (most o all) (idle o all + (tm + tree_idle most idle b d)) (most o' k) (idle o' k + (tm' + tree_idle most idle b' c)) result =
      above-pays g input result types tm (tree_idle most idle b d) tm' (tree_idle most idle b' c) (most o all) (idle o all) _ _ (most o' k) (idle o' k) gives below
      (most-grows o (with_rows want.Right (got.Input input) k) all more) (idle-grows o (with_rows want.Right (got.Input input) k) all more) (at k) in
      let x = h.rows in
      let y = h.turns in
      let p = other.0 in
      let q = other.1 in
      record { rows = x; turns = omega (arith, y, p, q) }) top
