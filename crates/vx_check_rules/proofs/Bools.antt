-- Tests that are joined.
use Rattle.std.proofs.Common.{◌≡◌, Bool, true, false, ◌&&◌, ◌||◌, List, [], ◌∷◌, refl}
use Rattle.std.specs.List.{list_any, list_all}
use Rattle.vx_rows_values.proofs.Booleans.{and-left, and-right, and-both}
use Rattle.vx_check_rules.specs.Behaviour.{if_so}

pub or-false : (b : Bool) → (b || false) ≡ b
or-false true = refl
or-false false = refl

pub or-true : (b : Bool) → (b || true) ≡ true
or-true true = refl
or-true false = refl

pub and-true : (b : Bool) → (b && true) ≡ b
and-true true = refl
and-true false = refl

pub or-assoc : (a b c : Bool) → ((a || b) || c) ≡ (a || (b || c))
or-assoc true b c = refl
or-assoc false b c = refl

pub or-swap : (a b : Bool) → (a || b) ≡ (b || a)
or-swap true true = refl
or-swap true false = refl
or-swap false true = refl
or-swap false false = refl

pub or-again : (a b : Bool) → (a || b) ≡ (a || (a || b))
or-again true b = refl
or-again false b = refl

pub any-if : {X : Type 0} (f : X → Bool) (b : Bool) (xs : List X) → list_any f (if_so b xs) ≡ (b && list_any f xs)
any-if f true xs = refl
any-if f false xs = refl

pub or-left : (a b : Bool) → a ≡ true → (a || b) ≡ true
or-left true b h = refl
or-left false b h = cc

pub or-right : (a b : Bool) → b ≡ true → (a || b) ≡ true
or-right true b h = refl
or-right false b h = h

-- what passes one test passes another
pub all-more : {X : Type 0} (p q : X → Bool) (xs : List X) → ((x : X) → p x ≡ true → q x ≡ true) → list_all p xs ≡ true → list_all q xs ≡ true
all-more p q [] h k = refl
all-more p q (x ∷ xs) h k = and-both (q x) (list_all q xs) (h x (and-left (p x) (list_all p xs) k)) (all-more p q xs h (and-right (p x) (list_all p xs) k))

pub any-more : {X : Type 0} (p q : X → Bool) (xs : List X) → ((x : X) → p x ≡ true → q x ≡ true) → list_any p xs ≡ true → list_any q xs ≡ true
any-more p q [] h k = k
any-more p q (x ∷ xs) h k = by (p x) refl (any-more p q xs h) k
  where
    by : (b : Bool) → p x ≡ b → (list_any p xs ≡ true → list_any q xs ≡ true) → (b || list_any p xs) ≡ true → (q x || list_any q xs) ≡ true
    by true e more l = or-left (q x) (list_any q xs) (h x e)
    by false e more l = or-right (q x) (list_any q xs) (more l)
