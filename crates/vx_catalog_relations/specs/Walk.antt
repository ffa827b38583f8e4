-- Going over a list: each element's result comes after those of the elements before it, and the first refusal ends it.
use Rattle.std.specs.Prelude.{List, [], ◌∷◌, ◌++◌, Result, Ok, Err}

infixl 10 ◌>>=◌
abbrev pub ◌>>=◌ : {E A B : Type 0} → Result A E → (A → Result B E) → Result B E
(Ok x) >>= f = f x
(Err e) >>= f = Err e

-- what `step` makes of each of these elements and of what was made before it, behind what was made already; or the first refusal
unfoldable pub walk_onto : {E A B : Type 0} → (List B → A → Result B E) → List B → List A → Result (List B) E
walk_onto step prior [] = Ok prior
walk_onto step prior (x ∷ xs) = step prior x >>= λ y. walk_onto step (prior ++ y ∷ []) xs
