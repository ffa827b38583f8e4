-- A list that is changed one element at a time, from the front.
use Rattle.std.proofs.Common.{◌≡◌, ℕ, suc, zero, ◌+◌, ◌<◌, List, [], ◌∷◌, ◌++◌, map, take, drop, set, length, get_or, drop-cons, add-one, refl, sym, ap, ◌∙◌, subst, arith}
use Rattle.std.proofs.lemmas.List.{take_more, take_more_set}

-- the two lists are equally long, and this holds of each two at one place
abbrev pub Pairs : {X : Type 0} → (X → X → Type 0) → List X → List X → Type 0
Pairs R [] [] = Unit {0}
Pairs R [] (y ∷ ys) = ⊥
Pairs R (x ∷ xs) [] = ⊥
Pairs R (x ∷ xs) (y ∷ ys) = R x y × Pairs R xs ys

pairs-push : {X : Type 0} (R : X → X → Type 0) (xs ys : List X) (x y : X) → Pairs R xs ys → R x y → Pairs R (xs ++ x ∷ []) (ys ++ y ∷ [])
pairs-push R [] [] x y all h = (h, tt)
pairs-push R [] (z ∷ ys) x y all h = absurd all
pairs-push R (z ∷ xs) [] x y all h = absurd all
pairs-push R (w ∷ xs) (z ∷ ys) x y all h = (all.0, pairs-push R xs ys x y all.1 h)

drop-past-set : {X : Type 0} (g : List X) (i : ℕ) (v : X) → drop (suc i) (set g i v) ≡ drop (suc i) g
drop-past-set [] i v = refl
drop-past-set (x ∷ g) zero v = refl
drop-past-set (x ∷ g) (suc i) v = drop-past-set g i v

tail_of : {X : Type 0} → List X → List X
tail_of [] = []
tail_of (x ∷ xs) = xs

-- what comes next was not changed yet
pub rest-same : {X : Type 0} (g old : List X) (i : ℕ) (x : X) → i < length g → i < length old → drop i g ≡ drop i old → get_or g i x ≡ get_or old i x
rest-same g old i x below far rest = ap (λ l. get_or l 0 x) (sym (drop-cons g i x below) ∙ (rest ∙ drop-cons old i x far))

-- the front is changed, the rest is as it was, and so one further
pub front-step : {X : Type 0} (R : X → X → Type 0) (g old : List X) (i : ℕ) (v x : X) → i < length g → i < length old
    → Pairs R (take i old) (take i g) → drop i g ≡ drop i old → R (get_or g i x) v
    → Pairs R (take (i + 1) old) (take (i + 1) (set g i v)) × (drop (i + 1) (set g i v) ≡ drop (i + 1) old)
unfolding tail_of
front-step R g old i v x below far front rest changed =
    let same : get_or g i x ≡ get_or old i x = rest-same g old i x below far rest in
    let cons = sym (drop-cons g i x below) ∙ (rest ∙ drop-cons old i x far) in
    let after : drop (suc i) g ≡ drop (suc i) old = ap tail_of cons in (
      subst (λ l. Pairs R l (take (i + 1) (set g i v))) (sym (take_more old i x far))
          (subst (Pairs R (take i old ++ get_or old i x ∷ [])) (sym (take_more_set g i v below))
          (pairs-push R (take i old) (take i g) (get_or old i x) v front (subst (λ y. R y v) same changed))),
      ap (λ n. drop n (set g i v)) (add-one i) ∙ (drop-past-set g i v ∙ (after ∙ ap (λ n. drop n old) (sym (add-one i)))),
    )

-- a change that keeps what a function says of an element
pub map-kept : {X Y : Type 0} (f : X → Y) (g : List X) (i : ℕ) (v x : X) → i < length g → f v ≡ f (get_or g i x) → map f (set g i v) ≡ map f g
map-kept f [] i v x below same = absurd (omega (arith, below))
map-kept f (y ∷ g) zero v x below same = λ j. same j ∷ map f g
map-kept f (y ∷ g) (suc i) v x below same = ap (λ l. f y ∷ l) (map-kept f g i v x (omega (arith, below)) same)
