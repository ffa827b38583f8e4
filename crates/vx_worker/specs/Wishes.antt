-- What a tree wants before its next turn, what it is given, and the types of the rows in it.
use Rattle.std.specs.Prelude.{ℕ, ◌≡◌, ◌≤◌, ◌<◌, ◌==◌, cond, false, List, []}
use Rattle.vx_rows_values.specs.declared.value.ColType.{ColType}
use Rattle.vx_ports.specs.Packets.{is_closed}
use Rattle.vx_ops.specs.Ledger.{fresh}
use Rattle.vx_ops.specs.Turn.{Shape, GivesRows, heard, with_packet, rows_in, packet_rows, with_more}
use Rattle.vx_ops.specs.declared.fault.StreamState.TheVariants.{Running}
use Rattle.vx_ops.specs.declared.turn.Want.{Want}
use Rattle.vx_ops.specs.declared.turn.Want.TheVariants as want
use Rattle.vx_ops.specs.declared.turn.Got.{Got}
use Rattle.vx_ops.specs.declared.turn.Got.TheVariants as got
use Rattle.vx_worker.specs.Fragment.{Frag, Reads}
use Rattle.vx_worker.specs.Trees.{LeavesComing, TakesFrom, ScansAt}
use Rattle.vx_worker.specs.declared.tree.Tree.{Tree, Leaf, One', Two'}
use Rattle.vx_worker.specs.declared.wish.Wish.{Wish}
use Rattle.vx_worker.specs.declared.wish.Wish.TheVariants as wish

-- a leaf asks under its number
abbrev pub leaf_want : ℕ → Want → Wish
leaf_want k want.Morsel = wish.Morsel k
leaf_want k (want.Packet i) = wish.Packet k i
leaf_want k _ = wish.Nothing

-- an operator with one input passes on what is wanted below
abbrev pub one_want : Want → Wish → Wish
one_want want.Left below = below
one_want _ below = wish.Nothing

-- one with two passes on what is wanted on the side that it wants
abbrev pub two_want : Want → Wish → Wish → Wish
two_want want.Left left right = left
two_want want.Right left right = right
two_want _ left right = wish.Nothing

-- what a tree wants, where w says what each operator wants
abbrev pub tree_want : {O : Type 0} → (w : O → Want) → Tree O → Wish
tree_want w (Leaf k o) = leaf_want k (w o)
tree_want w (One' o p c) = one_want (w o) (tree_want w c)
tree_want w (Two' o p a q b) = two_want (w o) (tree_want w a) (tree_want w b)

-- what is given is what was wished
abbrev pub WishFits : Wish → Got → Type 0
WishFits wish.Nothing got.Nothing = Unit {0}
WishFits (wish.Morsel k) (got.Input p) = Unit {0}
WishFits (wish.Packet k i) (got.Packet o) = Unit {0}
WishFits _ _ = ⊥

-- a morsel for leaf k is rows of the types m k, and at least one
abbrev pub WishTyped : (m : ℕ → List ColType) → Wish → Got → Type 0
WishTyped m (wish.Morsel k) (got.Input p) = GivesRows (m k) p
WishTyped m _ _ = Unit {0}

-- what the leaves read, with what is given
abbrev pub read : Reads → Wish → Got → Reads
read r (wish.Morsel k) (got.Input p) = record r { scanned = λ j. cond (j == k) (heard (r.scanned j) p) (r.scanned j) }
read r (wish.Packet k i) (got.Packet o) = record r { came = λ j. cond (j == k) (with_packet (r.came j) i o) (r.came j) }
read r _ _ = r

-- nothing was read
abbrev pub fresh_reads : Reads
fresh_reads = record { scanned = λ _. fresh; came = λ _ _. [] }

-- the numbers of the leaves are from low to below high, those on the left below those on the right
abbrev pub Numbered : {O : Type 0} → (low high : ℕ) → Tree O → Type 0
Numbered low high (Leaf k o) = (low ≤ k) × (k < high)
Numbered low high (One' o p c) = Numbered low high c
Numbered low high (Two' o p a q b) = (m : ℕ) × Numbered low m a × Numbered m high b

-- the types of the rows that a tree gives, where f says those of each operator
abbrev pub tree_types : {O : Type 0} → (f : O → Shape) → Tree O → List ColType
tree_types f (Leaf k o) = (f o).out
tree_types f (One' o p c) = (f o).out
tree_types f (Two' o p a q b) = (f o).out

-- each operator takes what those below it give; leaf k takes morsels of the types m k
abbrev pub TreeTyped : {O : Type 0} → (f : O → Shape) → (m : ℕ → List ColType) → Tree O → Type 0
TreeTyped f m (Leaf k o) = (f o).left ≡ m k
TreeTyped f m (One' o p c) = ((f o).left ≡ tree_types f c) × TreeTyped f m c
TreeTyped f m (Two' o p a q b) = ((f o).left ≡ tree_types f a) × ((f o).right ≡ tree_types f b) × TreeTyped f m a × TreeTyped f m b

-- what a fragment wishes for is open: a scan of its own whose morsels have not ended, or a producer of one of its leaves of which no closing packet came
abbrev pub WishOpen : Wish → Frag → Reads → Type 0
WishOpen wish.Nothing f r = Unit {0}
WishOpen (wish.Morsel k) f r = ScansAt k f × ((r.scanned k).over ≡ Running)
WishOpen (wish.Packet k i) f r = TakesFrom k i f × (is_closed (r.came k i) ≡ false)

-- what might still come to the leaves before this came
abbrev pub with_read : Wish → Got → LeavesComing → LeavesComing
with_read (wish.Morsel k) (got.Input p) c = record c { scanned = with_more k (rows_in p) c.scanned }
with_read (wish.Packet k i) (got.Packet o) c = record c { came = λ j. cond (j == k) (with_more i (packet_rows o) (c.came j)) (c.came j) }
with_read _ _ c = c
