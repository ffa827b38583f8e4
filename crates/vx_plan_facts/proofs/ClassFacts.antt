-- Classes of equal columns by their first columns.
use Rattle.std.proofs.Common.{◌≡◌, ◌∙◌, ℕ, zero, suc, ◌+◌, ◌-◌, ◌<◌, ◌≤◌, ◌==◌, Bool, true, false, nat_lt, List, [], ◌∷◌, ◌++◌, map, length, drop, get_or, ap, sym, refl, arith, inl, inr, ◌⊎◌, subst, length-append, drop-cons}
use Rattle.std.proofs.lemmas.Bool.{eqb-true, eqb-false, and_parts, cases_order, cases_lt}
use Rattle.std.proofs.lemmas.List.{get_or_append_left, get_or-append-add, get_or-map, length-map}
use Rattle.std.proofs.Math.Seq.{get_or-append_seam}
use Rattle.std.proofs.lemmas.Bool.Decides.{nat_tests}
use Rattle.std.specs.List.{list_all}
use Rattle.vx_plan_nodes.specs.Plan.{Filter, comparing, computing}
use Rattle.vx_plan_facts.specs.Equal.{Equality, with_pair, with_conditions, with_pairs, comparisons}
use Rattle.vx_plan_facts.specs.Facts.{NamesFirsts, Tells}
use Rattle.vx_plan_facts.specs.Naming.{pair_within}
use Rattle.vx_plan_facts.specs.Labels.{label_eq, label_at, SameLabels}

-- ---- by labels

-- the column i is the first with the label of column c
pub record IsFirstAlike (labels : List (ℕ × ℕ)) (c i : ℕ) : Type 0 where
  pub before : i ≤ c
  pub alike : label_eq (label_at labels i) (label_at labels c) ≡ true
  pub first : (d : ℕ) → d < i → label_eq (label_at labels d) (label_at labels c) ≡ false

-- equality of labels
pub label-same : (a b : ℕ × ℕ) → label_eq a b ≡ true → a ≡ b
label-same (a, x) (b, y) h =
    let p = and_parts (a == b) (x == y) h in
    let e : a ≡ b = eqb-true a b p.0 in
    let f : x ≡ y = eqb-true x y p.1 in
    rw (e, f) refl

pub label-refl : (a : ℕ × ℕ) → label_eq a a ≡ true
label-refl (a, x) = grind (arith, nat_tests)

module _ (labels : List (ℕ × ℕ)) (firsts : List ℕ) (is : (c : ℕ) → c < length firsts → IsFirstAlike labels c (get_or firsts c 0)) where
  same-first : (a b : ℕ) → a < length firsts → b < length firsts → label_at labels a ≡ label_at labels b → get_or firsts b 0 < get_or firsts a 0 → ⊥
  same-first a b p q e h =
      let no = (is a p).first (get_or firsts b 0) h in
      let yes = (is b q).alike in
      true-not-false (sym yes ∙ ap (λ x. label_eq (label_at labels (get_or firsts b 0)) x) (sym e) ∙ no)
    where
      true-not-false : true ≡ false → ⊥
      true-not-false e = cc

  one-first : (a b : ℕ) → a < length firsts → b < length firsts → label_at labels a ≡ label_at labels b → get_or firsts a 0 ≡ get_or firsts b 0
  one-first a b p q e = elim (cases_order (get_or firsts a 0) (get_or firsts b 0)) [
    | inl same ↦ same
    | inr (inl h) ↦ absurd (same-first b a q p (sym e) h)
    | inr (inr h) ↦ absurd (same-first a b p q e h)
  ]

  label-first : (a : ℕ) → a < length firsts → label_at labels (get_or firsts a 0) ≡ label_at labels a
  label-first a p = label-same _ _ (is a p).alike

  pub alike-named : NamesFirsts firsts
  alike-named = record {
    before = λ c h. (is c h).before;
    own = λ c h. one-first (get_or firsts c 0) c (let le = (is c h).before in omega arith) h (label-first c h);
  }

  pub alike-tells : SameLabels labels firsts
  alike-tells a b p q = go (get_or firsts a 0 == get_or firsts b 0) (label_eq (label_at labels a) (label_at labels b)) refl refl
    where
      go : (x y : Bool) → x ≡ (get_or firsts a 0 == get_or firsts b 0) → y ≡ label_eq (label_at labels a) (label_at labels b) → x ≡ y
      go true true h k = refl
      go true false h k =
          let e : get_or firsts a 0 ≡ get_or firsts b 0 = eqb-true _ _ (sym h) in
          let l : label_at labels a ≡ label_at labels b = sym (label-first a p) ∙ ap (label_at labels) e ∙ label-first b q in
          sym (label-refl (label_at labels a)) ∙ ap (λ x. label_eq (label_at labels a) x) l ∙ sym k
      go false true h k = absurd (eqb-false _ _ (sym h) (one-first a b p q (label-same _ _ (sym k))))
      go false false h k = refl

-- one column more
pub alike-next : (labels : List (ℕ × ℕ)) (n : ℕ) (old new : List ℕ) (i : ℕ) → length old ≡ n → ((c : ℕ) → c < n → IsFirstAlike labels c (get_or old c 0)) → new ≡ old ++ i ∷ [] → IsFirstAlike labels n i
    → (c : ℕ) → c < n + 1 → IsFirstAlike labels c (get_or new c 0)
alike-next labels n old new i wide is more own c h = go (cases_lt c n)
  where
    go : (c < n) ⊎ (n ≤ c) → IsFirstAlike labels c (get_or new c 0)
    go (inl k) = subst (λ x. IsFirstAlike labels c x) (sym (ap (λ xs. get_or xs c 0) more ∙ get_or_append_left old (i ∷ []) 0 c (omega (arith, wide, k)))) (is c k)
    go (inr k) =
        let e : n ≡ c = omega (arith, h, k) in
        let at : get_or new n 0 ≡ i = ap (λ xs. get_or xs n 0) more ∙ ap (λ m. get_or (old ++ i ∷ []) m 0) (sym wide) ∙ get_or-append_seam old i [] 0 in
        subst (λ m. IsFirstAlike labels m (get_or new m 0)) e (subst (λ x. IsFirstAlike labels n x) (sym at) own)

pub alike-length : (old new : List ℕ) (n i : ℕ) → length old ≡ n → new ≡ old ++ i ∷ [] → length new ≡ n + 1
alike-length old new n i wide more = let e = ap length more ∙ length-append old (i ∷ []) in omega (arith, e, wide)

-- ---- the columns of two inputs

module _ (lefts rights : List ℕ) where
  abbrev both : List ℕ
  both = lefts ++ map (λ c. length lefts + c) rights

  pub both-left : (a : ℕ) → a < length lefts → get_or both a 0 ≡ get_or lefts a 0
  both-left a h = get_or_append_left lefts (map (λ c. length lefts + c) rights) 0 a h

  pub both-right : (n : ℕ) → n < length rights → get_or both (length lefts + n) 0 ≡ length lefts + get_or rights n 0
  both-right n h = get_or-append-add lefts (map (λ c. length lefts + c) rights) n 0 ∙ get_or-map (λ c. length lefts + c) rights n 0 0 h

  pub both-behind : (a : ℕ) → length lefts ≤ a → a - length lefts < length rights → get_or both a 0 ≡ length lefts + get_or rights (a - length lefts) 0
  both-behind a h k =
      let e : a ≡ length lefts + (a - length lefts) = omega (arith, h) in
      ap (λ m. get_or both m 0) e ∙ both-right (a - length lefts) k

  pub both-length : length both ≡ length lefts + length rights
  both-length = length-append lefts (map (λ c. length lefts + c) rights) ∙ ap (λ n. length lefts + n) (length-map rights (λ c. length lefts + c))

  pub both-named : NamesFirsts lefts → NamesFirsts rights → NamesFirsts both
  both-named left right = record { before = below; own = owns }
    where
      below : (c : ℕ) → c < length both → get_or both c 0 ≤ c
      below c h = go (cases_lt c (length lefts))
        where
          go : (c < length lefts) ⊎ (length lefts ≤ c) → get_or both c 0 ≤ c
          go (inl k) = rw (both-left c k) (left.before c k)
          go (inr k) =
              let n = both-length in
              let i : c - length lefts < length rights = omega (arith, h, k, n) in
              let e = both-behind c k i in
              let le = right.before (c - length lefts) i in
              omega (arith, e, le, k)

      owns : (c : ℕ) → c < length both → get_or both (get_or both c 0) 0 ≡ get_or both c 0
      owns c h = go (cases_lt c (length lefts))
        where
          go : (c < length lefts) ⊎ (length lefts ≤ c) → get_or both (get_or both c 0) 0 ≡ get_or both c 0
          go (inl k) =
              let le = left.before c k in
              let e = both-left c k in
              ap (λ m. get_or both m 0) e ∙ both-left (get_or lefts c 0) (omega (arith, le, k)) ∙ left.own c k ∙ sym e
          go (inr k) =
              let n = both-length in
              let i : c - length lefts < length rights = omega (arith, h, k, n) in
              let e = both-behind c k i in
              let le = right.before (c - length lefts) i in
              ap (λ m. get_or both m 0) e ∙ both-right (get_or rights (c - length lefts) 0) (omega (arith, le, i)) ∙ ap (λ m. length lefts + m) (right.own (c - length lefts) i) ∙ sym e

-- ---- conditions and pairs, from the last one on

back-drop : {X : Type 0} (xs : List X) (n done : ℕ) (d : X) → n ≡ length xs → done < n → drop (n - (done + 1)) xs ≡ get_or xs (n - 1 - done) d ∷ drop (n - done) xs
back-drop xs n done d wide h =
    let i : n - (done + 1) ≡ n - 1 - done = omega (arith, h) in
    let j : suc (n - 1 - done) ≡ n - done = omega (arith, h) in
    ap (λ m. drop m xs) i ∙ drop-cons xs (n - 1 - done) d (omega (arith, wide, h)) ∙ ap (λ m. get_or xs (n - 1 - done) d ∷ drop m xs) j

-- the comparison of a first condition, over those of the others
front-compared : (x : Filter) (fs : List Filter) (e : Equality)
    → with_conditions (comparisons (x ∷ fs)) e ≡ with_conditions (comparisons (x ∷ [])) (with_conditions (comparisons fs) e)
front-compared (comparing c) fs e = refl
front-compared (computing y) fs e = refl

pub conditions-next : (xs : List Filter) (n done : ℕ) (x : Filter) (e : Equality) (old new : List ℕ) → n ≡ length xs → done < n → x ≡ get_or xs (n - 1 - done) x
    → ((h : Equality) → Tells h old → Tells (with_conditions (comparisons (x ∷ [])) h) new) → Tells (with_conditions (comparisons (drop (n - done) xs)) e) old
    → Tells (with_conditions (comparisons (drop (n - (done + 1)) xs)) e) new
conditions-next xs n done x e old new wide h is step tells =
    let back : drop (n - (done + 1)) xs ≡ x ∷ drop (n - done) xs = back-drop xs n done x wide h ∙ ap (λ y. y ∷ drop (n - done) xs) (sym is) in
    subst (λ fs. Tells (with_conditions (comparisons fs) e) new) (sym back)
    (subst (λ d. Tells d new) (sym (front-compared x (drop (n - done) xs) e)) (step (with_conditions (comparisons (drop (n - done) xs)) e) tells))

pub pairs-next : (w : ℕ) (xs : List (ℕ × ℕ)) (n done : ℕ) (x : ℕ × ℕ) (e : Equality) (old new : List ℕ) → n ≡ length xs → done < n → x ≡ get_or xs (n - 1 - done) x
    → ((h : Equality) → Tells h old → Tells (with_pair x.0 (w + x.1) h) new) → Tells (with_pairs w (drop (n - done) xs) e) old → Tells (with_pairs w (drop (n - (done + 1)) xs) e) new
pairs-next w xs n done x e old new wide h is step tells =
    let back : drop (n - (done + 1)) xs ≡ x ∷ drop (n - done) xs = back-drop xs n done x wide h ∙ ap (λ y. y ∷ drop (n - done) xs) (sym is) in
    subst (λ cs. Tells (with_pairs w cs e) new) (sym back) (step (with_pairs w (drop (n - done) xs) e) tells)

-- what holds of all holds of each
pub all-at : {X : Type 0} (p : X → Bool) (xs : List X) (i : ℕ) (d : X) → i < length xs → list_all p xs ≡ true → p (get_or xs i d) ≡ true
all-at p [] i d h all = absurd (omega (arith, h))
all-at p (x ∷ xs) zero d h all = (and_parts (p x) (list_all p xs) all).0
all-at p (x ∷ xs) (suc i) d h all = all-at p xs i d (omega (arith, h)) (and_parts (p x) (list_all p xs) all).1

pub pair-at : (v w : ℕ) (on : List (ℕ × ℕ)) (i : ℕ) → i < length on → list_all (pair_within v w) on ≡ true → ((get_or on i (0, 0)).0 < v) × ((get_or on i (0, 0)).1 < w)
pair-at v w on i h all =
    let p = and_parts (nat_lt (get_or on i (0, 0)).0 v) (nat_lt (get_or on i (0, 0)).1 w) (all-at (pair_within v w) on i (0, 0) h all) in
    (below-from p.0, below-from p.1)
  where
    below-from : {a b : ℕ} → nat_lt a b ≡ true → a < b
    below-from e = grind (arith, nat_tests)

-- an element that is there, whatever is read past the end
pub get_or-there : {X : Type 0} (xs : List X) (i : ℕ) (d e : X) → i < length xs → get_or xs i d ≡ get_or xs i e
get_or-there [] i d e h = absurd (omega (arith, h))
get_or-there (x ∷ xs) zero d e h = refl
get_or-there (x ∷ xs) (suc i) d e h = get_or-there xs i d e (omega (arith, h))
