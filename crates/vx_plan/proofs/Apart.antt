-- Lists in which nothing stands twice.
use Rattle.std.proofs.Common.{◌≡◌, ℕ, ◌==◌, List, [], ◌∷◌, ◌++◌, Bool, true, false, not, cond, ◌&&◌, Result, Ok, Err, map, bytes_eq, refl, sym, ap, ◌∙◌, true≢false}
use Rattle.std.specs.Prelude.{⊤}
use Rattle.std.specs.List.{list_any, list_all}
use Rattle.std.proofs.lemmas.Bool.{eqb-true, or_parts, or_from, not-true, not_from_false}
use Rattle.std.proofs.lemmas.Slice.Eq.{bytes_eq-Decides}
use Rattle.vx_catalog_relations.specs.Catalog.{are_distinct}
use Rattle.vx_plan_nodes.specs.Typed.{are_distinct_pairs}
use Rattle.vx_rows_values.specs.Values.{Name}
use Rattle.vx_plan_json.specs.Fault.{Refusal, duplicate_column}
use Rattle.vx_plan.specs.Lookup.{tested_onto, is_among, test_distinct, pair_eq, is_among_pairs, test_distinct_pairs}
use Rattle.vx_plan_json.proofs.Holds.{Holds}
use Rattle.vx_rows_values.proofs.Booleans.{and-left, and-right, and-both}

-- no element equals a later one
abbrev pub apart : {A : Type 0} → (A → A → Bool) → List A → Bool
apart eq [] = true
apart eq (x ∷ xs) = not (list_any (eq x) xs) && apart eq xs

-- an equality test that goes both ways
abbrev pub IsSymmetric : {A : Type 0} → (A → A → Bool) → Type 0
IsSymmetric eq = (x y : _) → eq x y ≡ true → eq y x ≡ true

pub other-false : {A : Type 0} (eq : A → A → Bool) → IsSymmetric eq → (x y : A) → eq y x ≡ false → eq x y ≡ false
other-false eq s x y h = go (eq x y) refl
  where
    go : (b : Bool) → eq x y ≡ b → b ≡ false
    go true e = absurd (true≢false (sym (s x y e) ∙ h))
    go false e = refl

any-prefix : {A : Type 0} (p : A → Bool) (xs : List A) (x : A) → list_any p (xs ++ x ∷ []) ≡ false → list_any p xs ≡ false
any-prefix p [] x h = refl
any-prefix p (y ∷ xs) x h = or_from (p y) (list_any p xs) (or_parts (p y) (list_any p (xs ++ x ∷ [])) h).0 (any-prefix p xs x (or_parts (p y) (list_any p (xs ++ x ∷ [])) h).1)

any-last : {A : Type 0} (p : A → Bool) (xs : List A) (x : A) → list_any p (xs ++ x ∷ []) ≡ false → p x ≡ false
any-last p [] x h = (or_parts (p x) false h).0
any-last p (y ∷ xs) x h = any-last p xs x (or_parts (p y) (list_any p (xs ++ x ∷ [])) h).1

-- none of these equals one of those before
abbrev pub clear : {A : Type 0} → (A → A → Bool) → List A → List A → Bool
clear eq before xs = list_all (λ x. not (list_any (eq x) before)) xs

clear-prefix : {A : Type 0} (eq : A → A → Bool) (before : List A) (x : A) (ys : List A) → clear eq (before ++ x ∷ []) ys ≡ true → clear eq before ys ≡ true
clear-prefix eq before x [] h = refl
clear-prefix eq before x (y ∷ ys) h =
    let first : Bool = not (list_any (eq y) (before ++ x ∷ [])) in
    and-both (not (list_any (eq y) before)) (clear eq before ys)
    (not_from_false (list_any (eq y) before) (any-prefix (eq y) before x (not-true (list_any (eq y) (before ++ x ∷ [])) (and-left first (clear eq (before ++ x ∷ []) ys) h))))
    (clear-prefix eq before x ys (and-right first (clear eq (before ++ x ∷ []) ys) h))

pub clear-last : {A : Type 0} (eq : A → A → Bool) → IsSymmetric eq → (before : List A) (x : A) (ys : List A) → clear eq (before ++ x ∷ []) ys ≡ true → list_any (eq x) ys ≡ false
clear-last eq s before x [] h = refl
clear-last eq s before x (y ∷ ys) h =
    let first : Bool = not (list_any (eq y) (before ++ x ∷ [])) in
    or_from (eq x y) (list_any (eq x) ys)
    (other-false eq s x y (any-last (eq y) before x (not-true (list_any (eq y) (before ++ x ∷ [])) (and-left first (clear eq (before ++ x ∷ []) ys) h))))
    (clear-last eq s before x ys (and-right first (clear eq (before ++ x ∷ []) ys) h))

pub tested-apart : {A : Type 0} (eq : A → A → Bool) (refusal : A → Refusal) → IsSymmetric eq → (xs before : List A) → tested_onto (λ before x. list_any (eq x) before) refusal before xs ≡ Ok tt
    → (clear eq before xs ≡ true) × (apart eq xs ≡ true)
unfolding tested_onto
tested-apart eq refusal s [] before h = (refl, refl)
tested-apart eq refusal s (x ∷ xs) before h = go (list_any (eq x) before) refl (tested-apart eq refusal s xs (before ++ x ∷ [])) h
  where
    go : (b : Bool) → list_any (eq x) before ≡ b → (tested_onto (λ before x. list_any (eq x) before) refusal (before ++ x ∷ []) xs ≡ Ok tt → (clear eq (before ++ x ∷ []) xs ≡ true) × (apart eq xs ≡ true))
        → cond b (Err (refusal x)) (tested_onto (λ before x. list_any (eq x) before) refusal (before ++ x ∷ []) xs) ≡ Ok tt → (clear eq before (x ∷ xs) ≡ true) × (apart eq (x ∷ xs) ≡ true)
    go true e next k = cc
    go false e next k =
        let r = next k in (
          and-both (not (list_any (eq x) before)) (clear eq before xs) (not_from_false (list_any (eq x) before) e) (clear-prefix eq before x xs r.0),
          and-both (not (list_any (eq x) xs)) (apart eq xs) (not_from_false (list_any (eq x) xs) (clear-last eq s before x xs r.0)) r.1,
        )

holds_tested : {A : Type 0} (eq : A → A → Bool) (refusal : A → Refusal) → IsSymmetric eq → (xs : List A) (r : Result ⊤ Refusal) → tested_onto (λ before x. list_any (eq x) before) refusal [] xs ≡ r → Holds (λ (u : ⊤). apart eq xs ≡ true) r
holds_tested eq refusal s xs (Ok u) h = (tested-apart eq refusal s xs [] h).1
holds_tested eq refusal s xs (Err e) h = tt

pub bytes_eq-symmetric : IsSymmetric bytes_eq
bytes_eq-symmetric x y h = (bytes_eq-Decides y x).1 (sym ((bytes_eq-Decides x y).0 h))

pub pair_eq-symmetric : IsSymmetric pair_eq
pair_eq-symmetric p q h =
    and-both (bytes_eq q.0 p.0) (bytes_eq q.1 p.1) (bytes_eq-symmetric p.0 q.0 (and-left (bytes_eq p.0 q.0) (bytes_eq p.1 q.1) h)) (bytes_eq-symmetric p.1 q.1 (and-right (bytes_eq p.0 q.0) (bytes_eq p.1 q.1) h))

pub test_distinct-apart : (node : ℕ) (names : List Name) → Holds (λ (u : ⊤). apart bytes_eq names ≡ true) (test_distinct node names)
unfolding test_distinct
test_distinct-apart node names = holds_tested bytes_eq (duplicate_column node) bytes_eq-symmetric names (tested_onto is_among (duplicate_column node) [] names) refl

pub test_distinct_pairs-apart : (node : ℕ) (pairs : List (Name × Name)) → Holds (λ (u : ⊤). apart pair_eq pairs ≡ true) (test_distinct_pairs node pairs)
unfolding test_distinct_pairs
test_distinct_pairs-apart node pairs = holds_tested pair_eq (λ (p : Name × Name). duplicate_column node p.0) pair_eq-symmetric pairs (tested_onto is_among_pairs (λ (p : Name × Name). duplicate_column node p.0) [] pairs) refl

-- what is equal stays equal under f
any-map : {A B : Type 0} (eq : A → A → Bool) (same : B → B → Bool) (f : A → B) → ((x y : A) → eq x y ≡ true → same (f x) (f y) ≡ true) → (x : A) (ys : List A) → list_any (same (f x)) (map f ys) ≡ false → list_any (eq x) ys ≡ false
any-map eq same f keeps x [] h = refl
any-map eq same f keeps x (y ∷ ys) h =
    or_from (eq x y) (list_any (eq x) ys) (go (eq x y) refl) (any-map eq same f keeps x ys (or_parts (same (f x) (f y)) (list_any (same (f x)) (map f ys)) h).1)
  where
    go : (b : Bool) → eq x y ≡ b → b ≡ false
    go true e = absurd (true≢false (sym (keeps x y e) ∙ (or_parts (same (f x) (f y)) (list_any (same (f x)) (map f ys)) h).0))
    go false e = refl

pub apart-map : {A B : Type 0} (eq : A → A → Bool) (same : B → B → Bool) (f : A → B) → ((x y : A) → eq x y ≡ true → same (f x) (f y) ≡ true) → (xs : List A) → apart same (map f xs) ≡ true → apart eq xs ≡ true
apart-map eq same f keeps [] h = refl
apart-map eq same f keeps (x ∷ xs) h =
    let first : Bool = not (list_any (same (f x)) (map f xs)) in
    and-both (not (list_any (eq x) xs)) (apart eq xs)
    (not_from_false (list_any (eq x) xs) (any-map eq same f keeps x xs (not-true (list_any (same (f x)) (map f xs)) (and-left first (apart same (map f xs)) h))))
    (apart-map eq same f keeps xs (and-right first (apart same (map f xs)) h))

pub apart-columns : (xs : List ℕ) → apart (λ (x y : ℕ). x == y) xs ≡ are_distinct xs
apart-columns [] = refl
apart-columns (x ∷ xs) = ap (λ b. not (list_any (λ y. x == y) xs) && b) (apart-columns xs)

-- columns of names that are apart are apart
pub distinct-columns : (f : ℕ → Name) (xs : List ℕ) → apart bytes_eq (map f xs) ≡ true → are_distinct xs ≡ true
distinct-columns f xs h =
    sym (apart-columns xs) ∙ apart-map (λ (x y : ℕ). x == y) bytes_eq f (λ x y e. (bytes_eq-Decides (f x) (f y)).1 (ap f (eqb-true x y e))) xs h

pub apart-pairs : (xs : List (ℕ × ℕ)) → apart (λ (x y : ℕ × ℕ). (x.0 == y.0) && (x.1 == y.1)) xs ≡ are_distinct_pairs xs
apart-pairs [] = refl
apart-pairs (x ∷ xs) = ap (λ b. not (list_any (λ y. (x.0 == y.0) && (x.1 == y.1)) xs) && b) (apart-pairs xs)

pub distinct-pairs : (f g : ℕ → Name) (xs : List (ℕ × ℕ)) → apart pair_eq (map (λ p. (f p.0, g p.1)) xs) ≡ true → are_distinct_pairs xs ≡ true
distinct-pairs f g xs h =
    sym (apart-pairs xs) ∙ apart-map (λ (x y : ℕ × ℕ). (x.0 == y.0) && (x.1 == y.1)) pair_eq (λ p. (f p.0, g p.1))
    (λ x y e. and-both (bytes_eq (f x.0) (f y.0)) (bytes_eq (g x.1) (g y.1))
    ((bytes_eq-Decides (f x.0) (f y.0)).1 (ap f (eqb-true x.0 y.0 (and-left (x.0 == y.0) (x.1 == y.1) e))))
    ((bytes_eq-Decides (g x.1) (g y.1)).1 (ap g (eqb-true x.1 y.1 (and-right (x.0 == y.0) (x.1 == y.1) e))))) xs h

-- a prefix of what is apart is apart
pub apart-prefix : {A : Type 0} (eq : A → A → Bool) (xs ys : List A) → apart eq (xs ++ ys) ≡ true → apart eq xs ≡ true
apart-prefix eq [] ys h = refl
apart-prefix eq (x ∷ xs) ys h =
    let first : Bool = not (list_any (eq x) (xs ++ ys)) in
    and-both (not (list_any (eq x) xs)) (apart eq xs)
    (not_from_false (list_any (eq x) xs) (any-before (eq x) xs ys (not-true (list_any (eq x) (xs ++ ys)) (and-left first (apart eq (xs ++ ys)) h))))
    (apart-prefix eq xs ys (and-right first (apart eq (xs ++ ys)) h))
  where
    any-before : {A : Type 0} (p : A → Bool) (xs ys : List A) → list_any p (xs ++ ys) ≡ false → list_any p xs ≡ false
    any-before p [] ys h = refl
    any-before p (x ∷ xs) ys h = or_from (p x) (list_any p xs) (or_parts (p x) (list_any p (xs ++ ys)) h).0 (any-before p xs ys (or_parts (p x) (list_any p (xs ++ ys)) h).1)
