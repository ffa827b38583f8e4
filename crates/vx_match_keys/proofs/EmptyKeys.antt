-- Keys without values: all rows have the same one.
use Rattle.std.proofs.Common.{◌≡◌, ℕ, ◌+◌, ◌<◌, ◌≤◌, Bool, true, false, cond, not, List, [], ◌∷◌, ◌++◌, map, length, refl, sym, ap, ◌∙◌, subst, arith, inl, inr}
use Rattle.std.specs.List.{position_or_len, prefix_len}
use Rattle.std.proofs.lemmas.Bool.{cases_lt}
use Rattle.std.proofs.lemmas.List.{length-append}
use Rattle.std.proofs.lemmas.List.Folds.{prefix_len-append}
use Rattle.indexmap.specs.IndexSet.{insert_key, insert_all}
use Rattle.vx_rows_values.specs.Values.{Row, row_eq, pick}
use Rattle.vx_match_keys.specs.Numbers.{numbers_of}
use Rattle.vx_match_keys.proofs.KeyFacts.{row_eq-refl}
use Rattle.vx_match_keys.proofs.NumberFacts.{key-known, key-new, number-most}

either : (b : Bool) (m p : ℕ) → m ≡ p → cond b m p ≡ p
either true m p e = e
either false m p e = refl

-- a key by itself
own-place : (x : Row) → position_or_len (row_eq x) (x ∷ []) ≡ 0
own-place x = ap (λ b. cond (not b) (1 + 0) 0) (row_eq-refl x)

-- where a key stands that is added behind others
place-behind : (ks : List Row) (x : Row) → length ks ≤ position_or_len (row_eq x) ks → position_or_len (row_eq x) (ks ++ x ∷ []) ≡ position_or_len (row_eq x) ks
place-behind ks x g =
    let q = λ (y : Row). not (row_eq x y) in
    let most = number-most (row_eq x) ks in
    let own = own-place x in
    prefix_len-append q ks (x ∷ []) ∙ either _ (length ks + prefix_len q (x ∷ [])) (prefix_len q ks) (omega (arith, most, g, own))

-- a key has the number with which it was added
pub place-kept : (ks : List Row) (x : Row) → position_or_len (row_eq x) (insert_key row_eq ks x) ≡ position_or_len (row_eq x) ks
place-kept ks x = elim (cases_lt (position_or_len (row_eq x) ks) (length ks)) [
  | inl l ↦ ap (position_or_len (row_eq x)) (key-known ks x l)
  | inr g ↦ ap (position_or_len (row_eq x)) (key-new ks x g) ∙ place-behind ks x g
]

-- it is among the keys
added-known : (ks : List Row) (x : Row) → position_or_len (row_eq x) (insert_key row_eq ks x) < length (insert_key row_eq ks x)
added-known ks x = elim (cases_lt (position_or_len (row_eq x) ks) (length ks)) [
  | inl l ↦ subst (λ (zs : List Row). position_or_len (row_eq x) zs < length zs) (sym (key-known ks x l)) l
  | inr g ↦
      let place = place-behind ks x g in
      let most = number-most (row_eq x) ks in
      let long = length-append ks (x ∷ []) in
      subst (λ (zs : List Row). position_or_len (row_eq x) zs < length zs) (sym (key-new ks x g)) (omega (arith, place, most, long))
]

-- the numbers of a key that is known
again : (ks rows : List Row) → position_or_len (row_eq []) ks < length ks → numbers_of ks (map (pick []) rows) ≡ map (λ _. position_or_len (row_eq []) ks) rows
again ks [] l = refl
again ks (r ∷ rows) l =
    ap (λ ns. position_or_len (row_eq []) ks ∷ ns) (ap (λ zs. numbers_of zs (map (pick []) rows)) (key-known ks [] l) ∙ again ks rows l)

stay : (ks rows : List Row) → position_or_len (row_eq []) ks < length ks → insert_all row_eq ks (map (pick []) rows) ≡ ks
stay ks [] l = refl
stay ks (r ∷ rows) l = ap (λ zs. insert_all row_eq zs (map (pick []) rows)) (key-known ks [] l) ∙ stay ks rows l

-- each row has the number of the first one
pub numbers-alike : (ks rows : List Row) → numbers_of ks (map (pick []) rows) ≡ map (λ _. position_or_len (row_eq []) ks) rows
numbers-alike ks [] = refl
numbers-alike ks (r ∷ rows) =
    ap (λ ns. position_or_len (row_eq []) ks ∷ ns)
    (again (insert_key row_eq ks []) rows (added-known ks []) ∙ ap (λ (n : ℕ). map (λ _. n) rows) (place-kept ks []))

-- the one key is added, if there is a row
pub keys-alike : (ks rows : List Row) → 0 < length rows → insert_all row_eq ks (map (pick []) rows) ≡ insert_key row_eq ks []
keys-alike ks [] l = absurd (omega (arith, l))
keys-alike ks (r ∷ rows) l = stay (insert_key row_eq ks []) rows (added-known ks [])

pub numbers-none : (ks rows : List Row) → length rows ≡ 0 → numbers_of ks (map (pick []) rows) ≡ []
numbers-none ks [] e = refl
numbers-none ks (r ∷ rows) e = absurd (omega (arith, e))

pub keys-none : (ks rows : List Row) → length rows ≡ 0 → insert_all row_eq ks (map (pick []) rows) ≡ ks
keys-none ks [] e = refl
keys-none ks (r ∷ rows) e = absurd (omega (arith, e))
