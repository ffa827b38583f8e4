-- The places of the rows of each consumer.
use Rattle.std.proofs.Common.{ℕ, ◌≡◌, ◌+◌, ◌<◌, ◌==◌, inl, inr, List, [], ◌∷◌, ◌++◌, length, map, get_or, set, take, refl, sym, ap, ◌∙◌, subst, arith, append-nil, Vec, Global, All}
use Rattle.std.specs.Prelude.{cond}
use Rattle.std.proofs.lemmas.Bool.Decides.{eqb_tells}
use Rattle.std.proofs.lemmas.List.{same_lists, length-set, get_or-set_same, get_or-set_other}
use Rattle.vx_rows.specs.Lists.{each_below}
use Rattle.vx_rows.specs.View.{ArePositions}
use Rattle.vx_rows.proofs.Below.{length-each_below, get_or-each_below, each_below-ext, each_below-all, all_at}
use Rattle.vx_rows_views.specs.Selected.{places_of}
use Rattle.vx_rows_views.proofs.Passing.{next-place-here, places-near}

-- the lists
abbrev pub lists : List (Vec ℕ Global) → List (List ℕ)
lists vs = map (λ v. v.items) vs

-- those of each consumer among the first i rows
abbrev pub places-below : ℕ → List ℕ → ℕ → List ℕ
places-below i ks j = places_of (λ k. k == j) (take i ks)

none-yet : (ks : List ℕ) → [] ≡ take 0 ks
none-yet [] = refl
none-yet (k ∷ ks) = refl

pub places-first : (n : ℕ) (ks : List ℕ) → each_below n (λ j. []) ≡ each_below n (places-below 0 ks)
places-first n ks = each_below-ext n (λ j. []) (places-below 0 ks) (λ j l. ap (places_of (λ k. k == j)) (none-yet ks))

-- one more row
pub places-more : (n i : ℕ) (ks : List ℕ) → i < length ks → get_or ks i 0 < n
    → set (each_below n (places-below i ks)) (get_or ks i 0) (get_or (each_below n (places-below i ks)) (get_or ks i 0) [] ++ i ∷ []) ≡ each_below n (places-below (i + 1) ks)
places-more n i ks near within =
    let to = get_or ks i 0 in
    let f : ℕ → List ℕ = places-below i ks in
    let g : ℕ → List ℕ = places-below (i + 1) ks in
    let old = each_below n f in
    let new : List ℕ = get_or old to [] ++ i ∷ [] in
    let long : length old ≡ n = length-each_below n f in
    let count : length (set old to new) ≡ n = length-set old to new ∙ long in
    let more : (j : ℕ) → g j ≡ f j ++ cond (to == j) (i ∷ []) [] = λ j. next-place-here (λ k. k == j) ks i 0 near in
    same_lists _ _ (count ∙ sym (length-each_below n g)) (λ j d there.
    let l : j < n = omega (arith, there, count) in
    elim (eqb_tells to j) [
      | inl e ↦
          ap (λ z. get_or (set old to new) z d) (sym e.1)
          ∙ (get_or-set_same old to new d (omega (arith, within, long))
          ∙ (ap (λ zs. zs ++ i ∷ []) (get_or-each_below n f to [] within)
          ∙ (ap (λ z. f z ++ i ∷ []) e.1
          ∙ (sym (ap (λ b. f j ++ cond b (i ∷ []) []) e.0) ∙ (sym (more j) ∙ sym (get_or-each_below n g j d l))))))
      | inr e ↦
          get_or-set_other old to j new d (λ q. e.1 (sym q))
          ∙ (get_or-each_below n f j d l
          ∙ (sym (append-nil (f j)) ∙ (sym (ap (λ b. f j ++ cond b (i ∷ []) []) e.0) ∙ (sym (more j) ∙ sym (get_or-each_below n g j d l)))))
    ])

-- they are places of the rows
pub places-there : (n m : ℕ) (ks : List ℕ) → length ks ≡ m → All (ArePositions m) (each_below n (λ j. places_of (λ k. k == j) ks))
places-there n m ks e =
    all_at (ArePositions m) (each_below n (λ j. places_of (λ k. k == j) ks))
    (each_below-all (ArePositions m) n (λ j. places_of (λ k. k == j) ks) (λ j l. let Q : ℕ → Type 0 = λ z. ArePositions z (places_of (λ k. k == j) ks) in subst Q e (places-near (λ k. k == j) ks)))
