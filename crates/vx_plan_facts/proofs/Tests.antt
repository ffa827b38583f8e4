-- Tests that are joined, and tests of the first columns.
use Rattle.std.proofs.Common.{◌≡◌, ℕ, zero, suc, ◌+◌, ◌<◌, Bool, true, false, ◌||◌, ◌⊎◌, inl, inr, ⊎_elim, List, [], ◌∷◌, refl, sym, arith, true≢false}
use Rattle.std.specs.List.{list_any, list_all}
use Rattle.vx_rows_values.proofs.Booleans.{and-left, and-right, and-both}
use Rattle.vx_plan_nodes.specs.Phases.{columns_from, first_columns}

pub or-cases : (a b : Bool) → (a || b) ≡ true → (a ≡ true) ⊎ (b ≡ true)
or-cases true b e = inl refl
or-cases false b e = inr e

pub or-left : (a b : Bool) → a ≡ true → (a || b) ≡ true
or-left true b e = refl
or-left false b e = absurd (true≢false (sym e))

pub or-right : (a b : Bool) → b ≡ true → (a || b) ≡ true
or-right true b e = refl
or-right false b e = e

-- of two tests joined each passes where another passes
pub or-more : (a b c d : Bool) → (a ≡ true → c ≡ true) → (b ≡ true → d ≡ true) → (a || b) ≡ true → (c || d) ≡ true
or-more a b c d f g e = ⊎_elim (λ l. or-left c d (f l)) (λ r. or-right c d (g r)) (or-cases a b e)

-- what passes one test passes another
pub all-more : {X : Type 0} (p q : X → Bool) → ((x : X) → p x ≡ true → q x ≡ true) → (xs : List X) → list_all p xs ≡ true → list_all q xs ≡ true
all-more p q f [] e = refl
all-more p q f (x ∷ xs) e = and-both (q x) (list_all q xs) (f x (and-left (p x) (list_all p xs) e)) (all-more p q f xs (and-right (p x) (list_all p xs) e))

-- the same of elements that pass a third one
pub all-more-of : {X : Type 0} (r p q : X → Bool) → ((x : X) → r x ≡ true → p x ≡ true → q x ≡ true) → (xs : List X) → list_all r xs ≡ true
    → list_all p xs ≡ true → list_all q xs ≡ true
all-more-of r p q f [] h e = refl
all-more-of r p q f (x ∷ xs) h e =
    and-both (q x) (list_all q xs) (f x (and-left (r x) (list_all r xs) h) (and-left (p x) (list_all p xs) e))
    (all-more-of r p q f xs (and-right (r x) (list_all r xs) h) (and-right (p x) (list_all p xs) e))

pub any-more-of : {X : Type 0} (r p q : X → Bool) → ((x : X) → r x ≡ true → p x ≡ true → q x ≡ true) → (xs : List X) → list_all r xs ≡ true
    → list_any p xs ≡ true → list_any q xs ≡ true
any-more-of r p q f [] h e = e
any-more-of r p q f (x ∷ xs) h e =
    or-more (p x) (list_any p xs) (q x) (list_any q xs) (f x (and-left (r x) (list_all r xs) h)) (any-more-of r p q f xs (and-right (r x) (list_all r xs) h)) e

pub any-more : {X : Type 0} (p q : X → Bool) → ((x : X) → p x ≡ true → q x ≡ true) → (xs : List X) → list_any p xs ≡ true → list_any q xs ≡ true
any-more p q f [] e = e
any-more p q f (x ∷ xs) e = or-more (p x) (list_any p xs) (q x) (list_any q xs) (f x) (any-more p q f xs) e

-- one of n columns from column i on passes
any-from : (p : ℕ → Bool) (i n : ℕ) → list_any p (columns_from i n) ≡ true → (d : ℕ) × (d < i + n) × (p d ≡ true)
any-from p i zero e = absurd (true≢false (sym e))
any-from p i (suc n) e =
    ⊎_elim (λ l. (i, omega arith, l)) (λ r. let w = any-from p (suc i) n r in let u = w.1 in (w.0, omega (arith, u), w.2))
    (or-cases (p i) (list_any p (columns_from (suc i) n)) e)

pub any-first : (p : ℕ → Bool) (w : ℕ) → list_any p (first_columns w) ≡ true → (d : ℕ) × (d < w) × (p d ≡ true)
any-first p w e = let r = any-from p 0 w e in let u = r.1 in (r.0, omega (arith, u), r.2)

-- where each of the first w columns that passes one test passes another, some column passes this if some passes that
any-more-from : (p q : ℕ → Bool) (i n : ℕ) → ((c : ℕ) → c < i + n → p c ≡ true → q c ≡ true) → list_any p (columns_from i n) ≡ true → list_any q (columns_from i n) ≡ true
any-more-from p q i zero f e = e
any-more-from p q i (suc n) f e =
    or-more (p i) (list_any p (columns_from (suc i) n)) (q i) (list_any q (columns_from (suc i) n)) (f i (omega arith))
    (any-more-from p q (suc i) n (λ c l. f c (omega arith))) e

pub any-more-first : (p q : ℕ → Bool) (w : ℕ) → ((c : ℕ) → c < w → p c ≡ true → q c ≡ true) → list_any p (first_columns w) ≡ true → list_any q (first_columns w) ≡ true
any-more-first p q w f e = any-more-from p q 0 w (λ c l. f c (omega arith)) e
