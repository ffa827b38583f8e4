-- The numbers of nodes: preorder, the root is 0, left before right.
use Rattle.std.specs.Prelude.{ℕ, ◌==◌, ◌&&◌, Bool, suc, ◌+◌, nat_lt, cond}
use Rattle.vx_plan_nodes.specs.Plan.{Plan, scan, unary, binary, exchange, size, number, size_eq}

-- how many nodes
abbrev pub nodes : Plan → ℕ
nodes (scan n c r m z) = 1
nodes (unary n c op p) = suc (nodes p)
nodes (binary n c op p q) = suc (nodes p + nodes q)
nodes (exchange n c k m p) = suc (nodes p)

-- nodes are numbered in preorder, from i
abbrev pub is_numbered : ℕ → Plan → Bool
is_numbered i (scan n c r m z) = n == i
is_numbered i (unary n c op p) = (n == i) && is_numbered (suc i) p
is_numbered i (binary n c op p q) = (n == i) && (is_numbered (suc i) p && is_numbered (suc i + nodes p) q)
is_numbered i (exchange n c k m p) = (n == i) && is_numbered (suc i) p

-- the relation of the scan with this number
abbrev pub relation_in : Plan → ℕ → ℕ
relation_in (scan n c r m z) k = r
relation_in (unary n c op p) k = relation_in p k
relation_in (binary n c op p q) k = cond (nat_lt k (number q)) (relation_in p k) (relation_in q k)
relation_in (exchange n c k' m p) k = relation_in p k

-- scans read the relations that `relation_of` says, and the inputs of a node have one size
abbrev pub is_fit : (ℕ → ℕ) → Plan → Bool
is_fit relation_of (scan n c r m z) = relation_of n == r
is_fit relation_of (unary n c op p) = is_fit relation_of p
is_fit relation_of (binary n c op p q) = size_eq (size p) (size q) && (is_fit relation_of p && is_fit relation_of q)
is_fit relation_of (exchange n c k m p) = is_fit relation_of p
