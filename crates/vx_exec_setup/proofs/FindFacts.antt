-- The first of a list that passes a test.
use Rattle.std.proofs.Common.{◌≡◌, ◌∙◌, Bool, true, false, cond, List, [], ◌∷◌, map, Option, Some, None, option_map, refl, ap, sym}
use Rattle.std.specs.List.{find}

-- the first among images is the image of the first
pub find-map : {X Y : Type 0} (p : Y → Bool) (f : X → Y) (xs : List X) → find p (map f xs) ≡ option_map f (find (λ x. p (f x)) xs)
find-map p f [] = refl
find-map p f (x ∷ xs) =
    elim (p (f x)) as (λ b. cond b (Some (f x)) (find p (map f xs)) ≡ option_map f (cond b (Some x) (find (λ y. p (f y)) xs))) [ true ↦ refl | false ↦ find-map p f xs ]

option_map-twice : {X Y Z : Type 0} (f : X → Y) (g : Z → X) (r : Option Z) → option_map (λ z. f (g z)) r ≡ option_map f (option_map g r)
option_map-twice f g None = refl
option_map-twice f g (Some z) = refl

-- what was found of a list, by reference, is what is found among its images
pub find_seen : {X Y Z : Type 0} (p : Y → Bool) (f : X → Y) (g : Z → X) (r : Option Z) (xs : List X) → option_map g r ≡ find (λ x. p (f x)) xs
    → option_map (λ z. f (g z)) r ≡ find p (map f xs)
find_seen p f g r xs found = option_map-twice f g r ∙ ap (option_map f) found ∙ sym (find-map p f xs)
