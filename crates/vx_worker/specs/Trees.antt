-- Trees of sources: the fragment that one stands for, when it may have read and given what is said, and what it has still to do.
use Rattle.std.specs.Prelude.{ℕ, ◌≡◌, ◌≤◌, ◌<◌, ◌+◌, ◌⊎◌}
use Rattle.vx_ops.specs.Ledger.{Stream, Ledger, Op, scan_op, one_op, two_op, receive}
use Rattle.vx_ops.specs.Turn.{Coming}
use Rattle.vx_plan_nodes.specs.Plan.{Plan, scan, unary, binary, exchange}
use Rattle.vx_worker.specs.Fragment.{RunModel, Frag, alone, above, both, fragment, Reads, LeafReads}
use Rattle.vx_worker.specs.declared.tree.Tree.{Tree, Leaf, One', Two'}

-- the operators of a tree, each seen by f
abbrev pub shape : {O : Type 0} → (O → Op) → Tree O → Frag
shape f (Leaf k o) = alone k (f o)
shape f (One' o p c) = above (f o) (shape f c)
shape f (Two' o p a q b) = both (f o) (shape f a) (shape f b)

-- each source stands with a ledger that hears what the sources below it gave
abbrev pub TreeStands : {O : Type 0} → (O → Ledger → Type 0) → Tree O → Reads → Stream → Type 0
TreeStands S (Leaf k o) r out = (l : Ledger) × S o l × LeafReads k r l × (l.gave ≡ out)
TreeStands S (One' o p c) r out = (l : Ledger) × S o l × TreeStands S c r l.left × (l.gave ≡ out)
TreeStands S (Two' o p a q b) r out = (l : Ledger) × S o l × TreeStands S a r l.left × TreeStands S b r l.right × (l.gave ≡ out)

-- an operator that reads no operator below it, one, or two
abbrev pub IsLeaf : Op → Type 0
IsLeaf scan_op = Unit {0}
IsLeaf (one_op n op) = ⊥
IsLeaf (two_op n op) = ⊥
IsLeaf (receive port) = Unit {0}

abbrev pub ReadsOne : Op → Type 0
ReadsOne scan_op = ⊥
ReadsOne (one_op n op) = Unit {0}
ReadsOne (two_op n op) = ⊥
ReadsOne (receive port) = ⊥

abbrev pub ReadsTwo : Op → Type 0
ReadsTwo scan_op = ⊥
ReadsTwo (one_op n op) = ⊥
ReadsTwo (two_op n op) = Unit {0}
ReadsTwo (receive port) = ⊥

-- each operator stands where it has the inputs that it reads
abbrev pub IsFormed : Frag → Type 0
IsFormed (alone k x) = IsLeaf x
IsFormed (above x f) = ReadsOne x × IsFormed f
IsFormed (both x f h) = ReadsTwo x × IsFormed f × IsFormed h

-- that of a plan does
pub fragment-formed : (S : RunModel) (place : ℕ) (p : Plan) → IsFormed (fragment S place p)
fragment-formed S place (scan n c r m z) = tt
fragment-formed S place (unary n c op p) = (tt, fragment-formed S place p)
fragment-formed S place (binary n c op p q) = (tt, fragment-formed S place p, fragment-formed S place q)
fragment-formed S place (exchange n c k merge p) = tt

-- there is a producer at this place
abbrev pub HasPlace : ℕ → Op → Type 0
HasPlace i scan_op = ⊥
HasPlace i (one_op n op) = ⊥
HasPlace i (two_op n op) = ⊥
HasPlace i (receive port) = i < port.producers

-- a leaf is the consumer end with this number, and there is a producer of it at this place
abbrev pub TakesFrom : (number from : ℕ) → Frag → Type 0
TakesFrom k i (alone n x) = (n ≡ k) × HasPlace i x
TakesFrom k i (above x f) = TakesFrom k i f
TakesFrom k i (both x f h) = TakesFrom k i f ⊎ TakesFrom k i h

-- a leaf is the scan with this number
abbrev pub ScansAt : (number : ℕ) → Frag → Type 0
ScansAt k (alone n x) = (n ≡ k) × (x ≡ scan_op)
ScansAt k (above x f) = ScansAt k f
ScansAt k (both x f h) = ScansAt k f ⊎ ScansAt k h

-- how many rows may still come at most to the leaf with a number: of morsels, and of each producer
pub record LeavesComing : Type 0 where
  pub scanned : ℕ → ℕ
  pub came : ℕ → ℕ → ℕ

-- no more may come than this
pub record IsWithinLeaves (a b : LeavesComing) : Type 0 where
  pub scanned : (k : ℕ) → a.scanned k ≤ b.scanned k
  pub came : (k i : ℕ) → a.came k i ≤ b.came k i

-- what may still come to one leaf, and to an operator above trees that may still give so many rows
abbrev pub leaf_coming : ℕ → LeavesComing → Coming
leaf_coming k c = record { left = c.scanned k; right = 0; packets = c.came k }

abbrev pub tree_coming : (left right : ℕ) → Coming
tree_coming left right = record { left = left; right = right; packets = λ i. 0 }

-- the most rows that a tree may still give: those of its top, to which the trees below it may still give so many
abbrev pub tree_most : {O : Type 0} → (most : O → Coming → ℕ) → Tree O → LeavesComing → ℕ
tree_most most (Leaf k o) c = most o (leaf_coming k c)
tree_most most (One' o p t) c = most o (tree_coming (tree_most most t c) 0)
tree_most most (Two' o p a q b) c = most o (tree_coming (tree_most most a c) (tree_most most b c))

-- the most turns in which it may still give nothing though nothing comes from outside: the idle turns of all its operators, and the turns
-- in which rows are given below the top and come no further
abbrev pub tree_idle : {O : Type 0} → (most idle : O → Coming → ℕ) → Tree O → LeavesComing → ℕ
tree_idle most idle (Leaf k o) c = idle o (leaf_coming k c)
tree_idle most idle (One' o p t) c = idle o (tree_coming (tree_most most t c) 0) + (tree_most most t c + tree_idle most idle t c)
tree_idle most idle (Two' o p a q b) c =
    idle o (tree_coming (tree_most most a c) (tree_most most b c)) + (tree_most most a c + tree_idle most idle a c) + (tree_most most b c + tree_idle most idle b c)
