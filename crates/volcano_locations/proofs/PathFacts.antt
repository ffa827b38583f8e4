-- The path of a tree's own node.
use Rattle.std.proofs.Common.{◌≡◌, ℕ, zero, suc, List, Some, refl, arith}
use Rattle.vx_plan_json.specs.Document.{Tree, scan, unary, binary, exchange}
use Rattle.volcano_locations.specs.Paths.{path_at}

pub path_here : (t : Tree) (n : ℕ) (path : List ℕ) → n ≡ 0 → path_at t n path ≡ Some path
path_here (scan c s) zero path h = refl
path_here (unary c op t) zero path h = refl
path_here (binary c op t u) zero path h = refl
path_here (exchange c k m t) zero path h = refl
path_here t (suc n) path h = absurd (omega arith)
