-- Lists that are not empty.
use Rattle.std.proofs.Common.{◌≡◌, ◌≢◌, List, [], ◌∷◌, None, map, length, nat_eq, false, slice_get}

-- a list that is not empty has a first member
pub has_first : {X Y : Type 0} (f : X → Y) (xs : List X) → nat_eq (length xs) 0 ≡ false → slice_get (map f xs) 0 ≢ None
has_first f [] h = cc
has_first f (x ∷ xs) h = λ e. cc
