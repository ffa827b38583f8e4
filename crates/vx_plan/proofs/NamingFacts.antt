-- Names by their places.
use Rattle.std.proofs.Common.{◌≡◌, ℕ, zero, suc, ◌<◌, List, [], ◌∷◌, length, get_or, map, ap, arith}
use Rattle.vx_catalog_relations.specs.Naming.{name_at}

-- the name of what stands at a place
pub name-range : {X Y : Type 0} (h : X → Y) (g : Y → List ℕ) (xs : List X) (i : ℕ) (x : X) → i < length xs → x ≡ get_or xs i x → g (h x) ≡ name_at (map g (map h xs)) i
name-range h g [] i x k e = absurd (omega arith)
name-range h g (y ∷ ys) zero x k e = ap (λ z. g (h z)) e
name-range h g (y ∷ ys) (suc i) x k e = name-range h g ys i x (omega arith) e
