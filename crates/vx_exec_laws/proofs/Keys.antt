-- Keys: a superset of a key is one, and what has fewer rows keeps them.
use Rattle.std.proofs.Common.{◌≡◌, ℕ, zero, suc, ◌+◌, ◌≤◌, nat_le, Bool, true, false, cond, ◌&&◌, ◌||◌, ⊎_elim, List, [], ◌∷◌, filter, take, refl, sym, ◌∙◌, subst, arith, true≢false, eqb-true, leb-true, is_eq, Ordering, Less, Equal, Greater}
use Rattle.std.specs.List.{list_all}
use Rattle.std.specs.Ordering.{ordering_then}
use Rattle.vx_rows_values.specs.Values.{Row, val_cmp, value_at}
use Rattle.vx_rows_values.specs.Order.{agree}
use Rattle.vx_rows_values.specs.Bags.{count}
use Rattle.vx_rows_values.specs.Keys.{HasKey}
use Rattle.vx_check_rules.specs.Rules.{contains, within, covers}
use Rattle.vx_catalog_relations.specs.Relation.{KeysHold}
use Rattle.vx_exec_laws.proofs.Bags.{and-left, and-right, and-both}
use Rattle.vx_exec_laws.proofs.Parts.{or-cases}

pub is_eq-then : (o p : Ordering) → is_eq (ordering_then o p) ≡ (is_eq o && is_eq p)
is_eq-then Less p = refl
is_eq-then Equal p = refl
is_eq-then Greater p = refl

pub agree-cons : (c : ℕ) (cs : List ℕ) (a b : Row) → agree (c ∷ cs) a b ≡ (is_eq (val_cmp (value_at a c) (value_at b c)) && agree cs a b)
agree-cons c cs a b = is_eq-then _ _

-- rows that agree on columns agree on each of them
pub agree-at : (x : List ℕ) (c : ℕ) (a b : Row) → contains x c ≡ true → agree x a b ≡ true → is_eq (val_cmp (value_at a c) (value_at b c)) ≡ true
agree-at [] c a b h e = absurd (true≢false (sym h))
agree-at (d ∷ ds) c a b h e =
    let both : (is_eq (val_cmp (value_at a d) (value_at b d)) && agree ds a b) ≡ true = sym (agree-cons d ds a b) ∙ e in
    let P : ℕ → Type 0 = λ v. is_eq (val_cmp (value_at a v) (value_at b v)) ≡ true in
    ⊎_elim
    (λ same. subst P (sym (eqb-true c d same)) (and-left _ _ both))
    (λ later. agree-at ds c a b later (and-right _ _ both))
    (or-cases _ _ h)

pub agree-within : (k x : List ℕ) (a b : Row) → within k x ≡ true → agree x a b ≡ true → agree k a b ≡ true
agree-within [] x a b h e = refl
agree-within (c ∷ cs) x a b h e =
    agree-cons c cs a b ∙ and-both _ _ (agree-at x c a b (and-left _ _ h) e) (agree-within cs x a b (and-right _ _ h) e)

pub one-if-mono : (a b : Bool) → (a ≡ true → b ≡ true) → cond a 1 0 ≤ cond b 1 0
one-if-mono false b h = omega arith
one-if-mono true b h = rw (h refl) (omega arith)

pub count-mono : {X : Type 0} (p q : X → Bool) → ((x : X) → p x ≡ true → q x ≡ true) → (xs : List X) → count p xs ≤ count q xs
count-mono p q h [] = omega arith
count-mono p q h (x ∷ xs) =
    let a : cond (p x) 1 0 ≤ cond (q x) 1 0 = one-if-mono _ _ (h x) in
    let b : count p xs ≤ count q xs = count-mono p q h xs in
    omega arith

pub count-cond : {X : Type 0} (p : X → Bool) (b : Bool) (x : X) (xs : List X) → count p (cond b (x ∷ xs) xs) ≤ cond (p x) 1 0 + count p xs
count-cond p true x xs = omega arith
count-cond p false x xs = omega arith

pub count-filter : {X : Type 0} (p q : X → Bool) (xs : List X) → count p (filter q xs) ≤ count p xs
count-filter p q [] = omega arith
count-filter p q (x ∷ xs) =
    let a : count p (cond (q x) (x ∷ filter q xs) (filter q xs)) ≤ cond (p x) 1 0 + count p (filter q xs) = count-cond p (q x) x (filter q xs) in
    let b : count p (filter q xs) ≤ count p xs = count-filter p q xs in
    omega arith

pub HasKey-within : (k x : List ℕ) → within k x ≡ true → (xs : List Row) → HasKey k xs → HasKey x xs
HasKey-within k x h xs key row =
    let a : count (agree x row) xs ≤ count (agree k row) xs = count-mono _ _ (λ y. agree-within k x row y h) xs in
    let b : count (agree k row) xs ≤ 1 = key row in
    omega arith

pub covers-key : (keys : List (List ℕ)) (x : List ℕ) → covers keys x ≡ true → (xs : List Row) → KeysHold keys xs → HasKey x xs
covers-key [] x h xs ks = absurd (true≢false (sym h))
covers-key (k ∷ keys) x h xs ks = ⊎_elim
    (λ first. HasKey-within k x first xs ks.0)
    (λ later. covers-key keys x later xs ks.1)
    (or-cases _ _ h)

-- the first rows have fewer, and at most so many
pub count-take : {X : Type 0} (p : X → Bool) (n : ℕ) (xs : List X) → count p (take n xs) ≤ count p xs
count-take p zero xs = omega arith
count-take p (suc n) [] = omega arith
count-take p (suc n) (x ∷ xs) = let a = count-take p n xs in omega (arith, a)

pub count-first : {X : Type 0} (p : X → Bool) (n : ℕ) (xs : List X) → count p (take n xs) ≤ n
count-first p zero xs = omega arith
count-first p (suc n) [] = omega arith
count-first p (suc n) (x ∷ xs) =
    let a = count-first p n xs in
    let b = at_most_one (p x) in
    omega (arith, a, b)
  where
    at_most_one : (b : Bool) → cond b 1 0 ≤ 1
    at_most_one true = omega arith
    at_most_one false = omega arith

-- a key of so many first rows: any columns of one row at most, and a key of all rows
pub first-key : (n : ℕ) (keys : List (List ℕ)) (x : List ℕ) → (nat_le n 1 || covers keys x) ≡ true → (xs : List Row) → KeysHold keys xs → HasKey x (take n xs)
first-key n keys x h xs ks row = ⊎_elim
    (λ few. let a = leb-true n 1 few in let b = count-first (agree x row) n xs in omega (arith, a, b))
    (λ covered. let a = count-take (agree x row) n xs in let b = covers-key keys x covered xs ks row in omega (arith, a, b))
    (or-cases (nat_le n 1) (covers keys x) h)

-- keys that a test shows hold where the test is right
pub keys-from : (test : List ℕ → Bool) (ys : List Row) → ((x : List ℕ) → test x ≡ true → HasKey x ys)
    → (keys : List (List ℕ)) → list_all test keys ≡ true → KeysHold keys ys
keys-from test ys right [] h = tt
keys-from test ys right (k ∷ keys) h = (right k (and-left _ _ h), keys-from test ys right keys (and-right _ _ h))
