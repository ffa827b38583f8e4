-- A read under a number that a tree does not have leaves what stands for that tree.
use Rattle.std.proofs.Common.{ℕ, ◌≡◌, ◌≤◌, ◌<◌, ◌⊎◌, inl, inr, refl, ap, ◌∙◌, arith}
use Rattle.std.proofs.lemmas.Bool.Decides.{nat_tests}
use Rattle.vx_ops.specs.Ledger.{Stream, Ledger}
use Rattle.vx_ops.specs.Turn.{heard, after}
use Rattle.vx_ops.specs.declared.turn.Want.{Want}
use Rattle.vx_ops.specs.declared.turn.Want.TheVariants as want
use Rattle.vx_ops.specs.declared.turn.Got.{Got}
use Rattle.vx_ops.specs.declared.turn.Got.TheVariants as got
use Rattle.vx_ops.specs.declared.turn.Polled.{Polled}
use Rattle.vx_worker.specs.Fragment.{Reads}
use Rattle.vx_worker.specs.Trees.{TreeStands}
use Rattle.vx_worker.specs.Wishes.{Numbered, tree_want, leaf_want, one_want, two_want, read}
use Rattle.vx_worker.specs.declared.tree.Tree.{Tree, Leaf, One', Two'}
use Rattle.vx_worker.specs.declared.wish.Wish.{Wish}
use Rattle.vx_worker.specs.declared.wish.Wish.TheVariants as wish

-- the same was read under this number
pub record SameAt (k : ℕ) (r s : Reads) : Type 0 where
  pub scanned : r.scanned k ≡ s.scanned k
  pub came : r.came k ≡ s.came k

-- a wish under a number of the range
abbrev pub InRange : ℕ → ℕ → Wish → Type 0
InRange low high wish.Nothing = Unit {0}
InRange low high (wish.Morsel k) = (low ≤ k) × (k < high)
InRange low high (wish.Packet k i) = (low ≤ k) × (k < high)

leaf_in : (low high k : ℕ) (x : Want) → low ≤ k → k < high → InRange low high (leaf_want k x)
leaf_in low high k want.Nothing a b = tt
leaf_in low high k want.Morsel a b = (a, b)
leaf_in low high k want.Left a b = tt
leaf_in low high k want.Right a b = tt
leaf_in low high k (want.Packet i) a b = (a, b)

one_in : (low high : ℕ) (x : Want) (y : Wish) → InRange low high y → InRange low high (one_want x y)
one_in low high want.Nothing y h = tt
one_in low high want.Morsel y h = tt
one_in low high want.Left y h = h
one_in low high want.Right y h = tt
one_in low high (want.Packet i) y h = tt

two_in : (low high : ℕ) (x : Want) (y z : Wish) → InRange low high y → InRange low high z → InRange low high (two_want x y z)
two_in low high want.Nothing y z h k = tt
two_in low high want.Morsel y z h k = tt
two_in low high want.Left y z h k = h
two_in low high want.Right y z h k = k
two_in low high (want.Packet i) y z h k = tt

wider : (low high bottom top : ℕ) (x : Wish) → bottom ≤ low → high ≤ top → InRange low high x → InRange bottom top x
wider low high bottom top wish.Nothing a b h = tt
wider low high bottom top (wish.Morsel k) a b h = (omega arith, omega arith)
wider low high bottom top (wish.Packet k i) a b h = (omega arith, omega arith)

-- a range with a leaf in it is not empty
pub numbered_rises : {O : Type 0} (low high : ℕ) (t : Tree O) → Numbered low high t → low ≤ high
numbered_rises low high (Leaf k o) n = omega arith
numbered_rises low high (One' o p c) n = numbered_rises low high c n
numbered_rises low high (Two' o p a q b) n =
    let x : low ≤ n.0 = numbered_rises low n.0 a n.1 in
    let y : n.0 ≤ high = numbered_rises n.0 high b n.2 in
    omega arith

pub want_in : {O : Type 0} (w : O → Want) (low high : ℕ) (t : Tree O) → Numbered low high t → InRange low high (tree_want w t)
want_in w low high (Leaf k o) n = leaf_in low high k (w o) n.0 n.1
want_in w low high (One' o p c) n = one_in low high (w o) (tree_want w c) (want_in w low high c n)
want_in w low high (Two' o p a q b) n =
    two_in low high (w o) (tree_want w a) (tree_want w b)
    (wider low n.0 low high (tree_want w a) (omega arith) (numbered_rises n.0 high b n.2) (want_in w low n.0 a n.1))
    (wider n.0 high low high (tree_want w b) (numbered_rises low n.0 a n.1) (omega arith) (want_in w n.0 high b n.2))

-- a read within one range is not seen under a number outside it
pub read_outside : (low high : ℕ) (r : Reads) (x : Wish) (g : Got) → InRange low high x → (j : ℕ) → (j < low) ⊎ (high ≤ j) → SameAt j r (read r x g)
read_outside low high r wish.Nothing g h j out = record { scanned = refl; came = refl }
read_outside low high r (wish.Morsel k) (got.Input p) h j out = record { scanned = grind (arith, nat_tests); came = refl }
read_outside low high r (wish.Morsel k) got.Nothing h j out = record { scanned = refl; came = refl }
read_outside low high r (wish.Morsel k) (got.Packet o) h j out = record { scanned = refl; came = refl }
read_outside low high r (wish.Packet k i) (got.Packet o) h j out = record { scanned = refl; came = grind (arith, nat_tests) }
read_outside low high r (wish.Packet k i) got.Nothing h j out = record { scanned = refl; came = refl }
read_outside low high r (wish.Packet k i) (got.Input p) h j out = record { scanned = refl; came = refl }

pub frame : {O : Type 0} (S : O → Ledger → Type 0) (low high : ℕ) (r s : Reads) (t : Tree O) (out : Stream) → Numbered low high t → ((j : ℕ) → low ≤ j → j < high → SameAt j r s) → TreeStands S t r out → TreeStands S t s out
frame S low high r s (Leaf k o) out n same h =
    let at : SameAt k r s = same k n.0 n.1 in
    (h.0, h.1, record { scanned = h.2.scanned ∙ at.scanned; came = h.2.came ∙ at.came }, h.3)
frame S low high r s (One' o p c) out n same h = (h.0, h.1, frame S low high r s c h.0.left n same h.2, h.3)
frame S low high r s (Two' o p a q b) out n same h =
    let x : low ≤ n.0 = numbered_rises low n.0 a n.1 in
    let y : n.0 ≤ high = numbered_rises n.0 high b n.2 in (
      h.0,
      h.1,
      frame S low n.0 r s a h.0.left n.1 (λ j u v. same j u (omega arith)) h.2,
      frame S n.0 high r s b h.0.right n.2 (λ j u v. same j (omega arith) v) h.3,
      h.4,
    )

module _ {O : Type 0} (S : O → Ledger → Type 0) (w : O → Want) (o o' : O) (a b c : Tree O) (g : Got) (input result : Polled) where
  -- a turn of the left side leaves what stands for the right
  pub turned_left : want.Left ≡ w o →
      ((low high : ℕ) (r : Reads) (out : Stream) → Numbered low high a → TreeStands S a r out → TreeStands S c (read r (tree_want w a) g) (heard out input)) →
      ((l : Ledger) → S o l → S o' (after l (w o) (got.Input input) result)) →
      (low m high : ℕ) (r : Reads) (out : Stream) → Numbered low m a → Numbered m high b →
      (l : Ledger) → S o l → TreeStands S a r l.left → TreeStands S b r l.right → l.gave ≡ out →
      (x : Ledger) × S o' x × TreeStands S c (read r (two_want (w o) (tree_want w a) (tree_want w b)) g) x.left × TreeStands S b (read r (two_want (w o) (tree_want w a) (tree_want w b)) g) x.right × (x.gave ≡ heard out result)
  turned_left e below turn low m high r out n n' l s sa sb gave =
      rw (← e) (
        after l want.Left (got.Input input) result,
        rw (← e) at (turn l s),
        below low m r l.left n sa,
        frame S m high r (read r (tree_want w a) g) b l.right n' (λ j u v. read_outside low m r (tree_want w a) g (want_in w low m a n) j (inr u)) sb,
        ap (λ z. heard z result) gave,
      )

  pub turned_right : want.Right ≡ w o →
      ((low high : ℕ) (r : Reads) (out : Stream) → Numbered low high b → TreeStands S b r out → TreeStands S c (read r (tree_want w b) g) (heard out input)) →
      ((l : Ledger) → S o l → S o' (after l (w o) (got.Input input) result)) →
      (low m high : ℕ) (r : Reads) (out : Stream) → Numbered low m a → Numbered m high b →
      (l : Ledger) → S o l → TreeStands S a r l.left → TreeStands S b r l.right → l.gave ≡ out →
      (x : Ledger) × S o' x × TreeStands S a (read r (two_want (w o) (tree_want w a) (tree_want w b)) g) x.left × TreeStands S c (read r (two_want (w o) (tree_want w a) (tree_want w b)) g) x.right × (x.gave ≡ heard out result)
  turned_right e below turn low m high r out n n' l s sa sb gave =
      rw (← e) (
        after l want.Right (got.Input input) result,
        rw (← e) at (turn l s),
        frame S low m r (read r (tree_want w b) g) a l.left n (λ j u v. read_outside m high r (tree_want w b) g (want_in w m high b n') j (inl v)) sa,
        below m high r l.right n' sb,
        ap (λ z. heard z result) gave,
      )
