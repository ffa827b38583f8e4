-- Lists that are taken over element by element.
use Rattle.std.proofs.Common.{ℕ, ◌≡◌, ◌+◌, ◌<◌, List, [], ◌∷◌, ◌++◌, length, map, get_or, drop, suc, refl, sym, ap, ◌∙◌, arith, append_assoc, append-nil, drop-cons, length-append}
use Rattle.std.proofs.lemmas.List.{map_push, length-map}

-- a list of no elements
pub nothing : {A : Type 0} (xs : List A) → length xs ≡ 0 → xs ≡ []
nothing [] e = refl
nothing (x ∷ xs) e = absurd (omega (arith, e))

-- one element more was taken over
pub moved : {M A : Type 0} (f : M → A) (ms new : List M) (m : M) (left rest all : List A) (x : A) → new ≡ ms ++ m ∷ [] → left ≡ x ∷ rest → f m ≡ x
    → map f ms ++ left ≡ all → map f new ++ rest ≡ all
moved f ms new m left rest all x e next is was =
    ap (λ z. map f z ++ rest) e ∙ ap (λ z. z ++ rest) (map_push f ms m) ∙ append_assoc (map f ms) (f m ∷ []) rest
    ∙ ap (λ z. map f ms ++ z ∷ rest) is ∙ ap (λ z. map f ms ++ z) (sym next) ∙ was

-- nothing is left
pub all-moved : {M A : Type 0} (f : M → A) (ms : List M) (left all : List A) → left ≡ [] → map f ms ++ left ≡ all → map f ms ≡ all
all-moved f ms left all none was = sym (append-nil (map f ms)) ∙ ap (λ z. map f ms ++ z) (sym none) ∙ was

-- what is left from a place on begins with what stands there
pub next-at : {A : Type 0} (xs : List A) (k : ℕ) (x : A) → k < length xs → x ≡ get_or xs k x → drop k xs ≡ x ∷ drop (k + 1) xs
next-at xs k x lt is =
    let e : suc k ≡ k + 1 = omega arith in
    drop-cons xs k x lt ∙ ap (λ z. z ∷ drop (suc k) xs) (sym is) ∙ ap (λ z. x ∷ drop z xs) e

module _ {M A B : Type 0} (f : M → A) (g : M → B) where
  -- the places that two lists have reached, of as many elements
  same-place : (ms : List M) (left all : List A) (ends total : List B) → map f ms ++ left ≡ all → map g ms ++ ends ≡ total → length total ≡ length all → length ends ≡ length left
  same-place ms left all ends total was had same =
      let a = length-append (map f ms) left in
      let b = length-map ms f in
      let c = ap (λ (z : List A). length z) was in
      let d = length-append (map g ms) ends in
      let e = length-map ms g in
      let h = ap (λ (z : List B). length z) had in
      omega (arith, a, b, c, d, e, h, same)

  -- where one has an element left, the other has
  pub some-left : (ms : List M) (left rest all : List A) (x : A) (ends total : List B) → left ≡ x ∷ rest → length ends ≡ 0 → map f ms ++ left ≡ all → map g ms ++ ends ≡ total
      → length total ≡ length all → ⊥
  some-left ms left rest all x ends total next none was had same =
      let a = same-place ms left all ends total was had same in
      let b = ap (λ (z : List A). length z) next in
      absurd (omega (arith, a, b, none))

  -- and where it has none, the other has none
  pub none-left : (ms : List M) (left all : List A) (ends total : List B) → length left ≡ 0 → map f ms ++ left ≡ all → map g ms ++ ends ≡ total → length total ≡ length all → ends ≡ []
  none-left ms left all ends total none was had same = let a = same-place ms left all ends total was had same in nothing ends (omega (arith, a, none))

-- less elements were taken over than there are
pub below-all : {M A : Type 0} (f : M → A) (ms : List M) (left rest all : List A) (x : A) → left ≡ x ∷ rest → map f ms ++ left ≡ all → length ms < length all
below-all f ms left rest all x next was =
    let a = length-append (map f ms) left in
    let b = length-map ms f in
    let c = ap (λ (z : List _). length z) was in
    let d = ap (λ (z : List _). length z) next in
    omega (arith, a, b, c, d)

-- all were taken over
pub taken-all : {M A : Type 0} (f : M → A) (ms : List M) (left all : List A) → length left ≡ 0 → map f ms ++ left ≡ all → length ms ≡ length all
taken-all f ms left all none was =
    let a = length-append (map f ms) left in
    let b = length-map ms f in
    let c = ap (λ (z : List _). length z) was in
    omega (arith, a, b, c, none)
