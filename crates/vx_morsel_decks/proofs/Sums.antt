-- Sums over all views, and over the seats of one.
use Rattle.std.proofs.Common.{◌≡◌, ℕ, zero, suc, ◌+◌, ◌≤◌, List, [], ◌∷◌, ◌++◌, set, refl, sym, ap, arith}
use mathlib.Core.Option.{some, some-injective, some-ne-none}
use lib.ListN.{get_elem?}
use Rattle.vx_morsel_decks.specs.Rule.{total}

module _ {A : Type 0} where
  -- the sum after a change of one element
  pub sum-set : (f : A → ℕ) (xs : List A) (i : ℕ) (a b : A) → get_elem? xs i ≡ some a → total f (set xs i b) + f a ≡ total f xs + f b
  sum-set f [] i a b e = absurd (some-ne-none a (sym e))
  sum-set f (x ∷ xs) zero a b e = let h : f x ≡ f a = ap f (some-injective x a e) in omega arith
  sum-set f (x ∷ xs) (suc i) a b e = let h = sum-set f xs i a b e in omega arith

  pub sum-snoc : (f : A → ℕ) (xs : List A) (a : A) → total f (xs ++ a ∷ []) ≡ total f xs + f a
  sum-snoc f [] a = omega arith
  sum-snoc f (x ∷ xs) a = let h = sum-snoc f xs a in omega arith

  pub sum-append : (f : A → ℕ) (xs ys : List A) → total f (xs ++ ys) ≡ total f xs + total f ys
  sum-append f [] ys = omega arith
  sum-append f (x ∷ xs) ys = let h = sum-append f xs ys in omega arith

  -- an element is at most the sum
  pub at-most-sum : (f : A → ℕ) (xs : List A) (i : ℕ) (a : A) → get_elem? xs i ≡ some a → f a ≤ total f xs
  at-most-sum f [] i a e = absurd (some-ne-none a (sym e))
  at-most-sum f (x ∷ xs) zero a e = let h : f x ≡ f a = ap f (some-injective x a e) in omega arith
  at-most-sum f (x ∷ xs) (suc i) a e = let h = at-most-sum f xs i a e in omega arith

  pub sum-le : (f g : A → ℕ) → ((a : A) → f a ≤ g a) → (xs : List A) → total f xs ≤ total g xs
  sum-le f g le [] = omega arith
  sum-le f g le (x ∷ xs) = let h = sum-le f g le xs in let k = le x in omega arith

  -- where the weights g are all those of one element, and f is 0 of what weighs nothing, so is the sum of f
  sum-none : (f g : A → ℕ) → ((a : A) → g a ≡ 0 → f a ≡ 0) → (xs : List A) → total g xs ≡ 0 → total f xs ≡ 0
  sum-none f g none [] e = refl
  sum-none f g none (x ∷ xs) e = let e' : g x + total g xs ≡ 0 = e in let h : f x ≡ 0 = none x (omega (arith, e')) in let k = sum-none f g none xs (omega (arith, e')) in omega arith

  pub sum-one : (f g : A → ℕ) → ((a : A) → g a ≡ 0 → f a ≡ 0) → (xs : List A) (i : ℕ) (a : A) → get_elem? xs i ≡ some a → total g xs ≡ g a → total f xs ≡ f a
  sum-one f g none [] i a e s = absurd (some-ne-none a (sym e))
  sum-one f g none (x ∷ xs) zero a e s =
      let s' : g x + total g xs ≡ g a = s in let is = some-injective x a e in let h : f x ≡ f a = ap f is in let k : g x ≡ g a = ap g is in
      let z = sum-none f g none xs (omega (arith, s', k)) in omega arith
  sum-one f g none (x ∷ xs) (suc i) a e s =
      let s' : g x + total g xs ≡ g a = s in let le = at-most-sum g xs i a e in let z : f x ≡ 0 = none x (omega (arith, s', le)) in
      let h = sum-one f g none xs i a e (omega (arith, s', le)) in omega arith
