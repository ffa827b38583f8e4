-- Where in a plan's document a node is.
use Rattle.std.specs.Prelude.{ℕ, zero, suc, ◌-◌, List, ◌++◌, Option, Some, None, codes, nat_lt, if◌then◌else◌}
use Rattle.vx_plan_json.specs.Document.{Tree, scan, unary, binary, exchange, tree_nodes}

-- the path of the node with this number, which counts from a tree's own in preorder, behind the path of the tree
abbrev pub path_at : Tree → ℕ → List ℕ → Option (List ℕ)
path_at (scan c s) zero path = Some path
path_at (scan c s) (suc n) path = None
path_at (unary c op t) zero path = Some path
path_at (unary c op t) (suc n) path = path_at t n (path ++ codes ".input")
path_at (binary c op t u) zero path = Some path
path_at (binary c op t u) (suc n) path = if nat_lt n (tree_nodes t) then path_at t n (path ++ codes ".left") else path_at u (n - tree_nodes t) (path ++ codes ".right")
path_at (exchange c k m t) zero path = Some path
path_at (exchange c k m t) (suc n) path = path_at t n (path ++ codes ".input")
