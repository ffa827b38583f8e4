-- Names that stand once pass the tests, and names that passed stand once.
use Rattle.std.proofs.Common.{◌≡◌, ℕ, ◌<◌, ◌&&◌, nat_le, List, [], ◌∷◌, ◌++◌, Bool, true, false, not, cond, Ok, Err, map, length, bytes_eq, codes, refl, sym, ap, ◌∙◌, append_assoc, length-append, arith}
use Rattle.std.specs.List.{list_any, list_all}
use Rattle.std.proofs.lemmas.List.{map-append}
use Rattle.std.proofs.lemmas.Bool.{or_parts, or_from, not-true, not_from_false, not_from_true, leb-true, lt-leb}
use Rattle.vx_rows_values.specs.Values.{Name}
use Rattle.vx_rows_values.specs.Ranges.{RangeForm}
use Rattle.vx_rows_values.proofs.Booleans.{and-left, and-right, and-both}
use Rattle.vx_catalog_relations.specs.Catalog.{are_distinct_names}
use Rattle.vx_catalog_relations.proofs.NameFacts.{list_any-map}
use Rattle.vx_plan_nodes.specs.Typed.{is_range}
use Rattle.vx_plan_json.specs.Fault.{Refusal, duplicate_column, bad_size, bad_range}
use Rattle.vx_plan.specs.Lookup.{tested_onto, is_among, test_distinct, pair_eq, is_among_pairs, test_distinct_pairs, test_distinct_keys}
use Rattle.vx_plan.specs.Resolve.{is_bad_size, test_sizes, is_bad_range, test_ranges}
use Rattle.vx_plan.proofs.Apart.{apart, IsSymmetric, other-false, clear-last, tested-apart, bytes_eq-symmetric, pair_eq-symmetric}

-- ---- distinct names are apart

names-apart : (names : List Name) → apart bytes_eq names ≡ are_distinct_names names
names-apart [] = refl
names-apart (x ∷ xs) = ap (λ b. not (list_any (bytes_eq x) xs) && b) (names-apart xs)

pub distinct-apart : (names : List Name) → are_distinct_names names ≡ true → apart bytes_eq names ≡ true
distinct-apart names h = names-apart names ∙ h

pub apart-distinct : (names : List Name) → apart bytes_eq names ≡ true → are_distinct_names names ≡ true
apart-distinct names h = sym (names-apart names) ∙ h

apart-of : {A B : Type 0} (eq : B → B → Bool) (f : A → B) (xs : List A) → apart (λ x y. eq (f x) (f y)) xs ≡ apart eq (map f xs)
apart-of eq f [] = refl
apart-of eq f (x ∷ xs) =
    ap (λ b. not b && apart (λ x y. eq (f x) (f y)) xs) (sym (list_any-map (eq (f x)) f xs)) ∙ ap (λ b. not (list_any (eq (f x)) (map f xs)) && b) (apart-of eq f xs)

any-amid : {A : Type 0} (p : A → Bool) (xs : List A) (y : A) (ys : List A) → list_any p (xs ++ y ∷ ys) ≡ false → p y ≡ false
any-amid p [] y ys h = (or_parts (p y) (list_any p ys) h).0
any-amid p (x ∷ xs) y ys h = any-amid p xs y ys (or_parts (p x) (list_any p (xs ++ y ∷ ys)) h).1

-- of what is apart no element equals one before it
before-apart : {A : Type 0} (eq : A → A → Bool) → IsSymmetric eq → (before : List A) (y : A) (rest : List A) → apart eq (before ++ y ∷ rest) ≡ true → list_any (eq y) before ≡ false
before-apart eq s [] y rest h = refl
before-apart eq s (x ∷ before) y rest h =
    let first : Bool = not (list_any (eq x) (before ++ y ∷ rest)) in
    or_from (eq y x) (list_any (eq y) before)
    (other-false eq s y x (any-amid (eq x) before y rest (not-true (list_any (eq x) (before ++ y ∷ rest)) (and-left first (apart eq (before ++ y ∷ rest)) h))))
    (before-apart eq s before y rest (and-right first (apart eq (before ++ y ∷ rest)) h))

-- ---- tests that pass

-- a list of which no element is bad after those before it passes
tested-passes : {A : Type 0} (is_bad : List A → A → Bool) (refusal : A → Refusal) (whole : List A) → ((before : List A) (x : A) (rest : List A) → before ++ x ∷ rest ≡ whole → is_bad before x ≡ false)
    → (xs before : List A) → before ++ xs ≡ whole → tested_onto is_bad refusal before xs ≡ Ok tt
unfolding tested_onto
tested-passes is_bad refusal whole good [] before e = refl
tested-passes is_bad refusal whole good (x ∷ xs) before e =
    rw (good before x xs e) (tested-passes is_bad refusal whole good xs (before ++ x ∷ []) (append_assoc before (x ∷ []) xs ∙ e))

pub test_distinct-passes : (node : ℕ) (names : List Name) → apart bytes_eq names ≡ true → test_distinct node names ≡ Ok tt
unfolding test_distinct
test_distinct-passes node names h =
    tested-passes is_among (duplicate_column node) names (λ before x rest e. before-apart bytes_eq bytes_eq-symmetric before x rest (ap (apart bytes_eq) e ∙ h)) names [] refl

pub test_distinct_pairs-passes : (node : ℕ) (pairs : List (Name × Name)) → apart pair_eq pairs ≡ true → test_distinct_pairs node pairs ≡ Ok tt
unfolding test_distinct_pairs
test_distinct_pairs-passes node pairs h =
    tested-passes is_among_pairs (λ (p : Name × Name). duplicate_column node p.0) pairs (λ before x rest e. before-apart pair_eq pair_eq-symmetric before x rest (ap (apart pair_eq) e ∙ h)) pairs [] refl

pub test_distinct_keys-passes : (node : ℕ) (keys : List (List Name)) → list_all (apart bytes_eq) keys ≡ true → test_distinct_keys node keys ≡ Ok tt
unfolding test_distinct_keys
test_distinct_keys-passes node [] h = refl
test_distinct_keys-passes node (k ∷ keys) h =
    rw (test_distinct-passes node k (and-left (apart bytes_eq k) (list_all (apart bytes_eq) keys) h)) (test_distinct_keys-passes node keys (and-right (apart bytes_eq k) (list_all (apart bytes_eq) keys) h))

pub sizes-pass : (sizes : List Name) → apart bytes_eq (codes "one" ∷ sizes) ≡ true → nat_le (length sizes) 16 ≡ true → test_sizes sizes ≡ Ok tt
unfolding test_sizes
sizes-pass sizes h few =
    tested-passes is_bad_size bad_size sizes
    (λ before x rest e.
    let long = length-append before (x ∷ rest) in
    let all = leb-true (length sizes) 16 few in
    let room : length before < 16 = omega (arith, ap length e, long, all) in
    or_from (nat_le 16 (length before)) (list_any (bytes_eq x) (codes "one" ∷ before)) (lt-leb 16 (length before) room)
    (before-apart bytes_eq bytes_eq-symmetric (codes "one" ∷ before) x rest (ap (λ (l : List Name). apart bytes_eq (codes "one" ∷ l)) e ∙ h)))
    sizes [] refl

abbrev name_eq : RangeForm → RangeForm → Bool
name_eq r q = bytes_eq r.name q.name

one-passes : {A : Type 0} (p : A → Bool) (before : List A) (y : A) (rest : List A) → list_all p (before ++ y ∷ rest) ≡ true → p y ≡ true
one-passes p [] y rest h = and-left (p y) (list_all p rest) h
one-passes p (x ∷ before) y rest h = one-passes p before y rest (and-right (p x) (list_all p (before ++ y ∷ rest)) h)

pub ranges-pass : (ranges : List RangeForm) → apart bytes_eq (map (λ (r : RangeForm). r.name) ranges) ≡ true → list_all is_range (map (λ (r : RangeForm). r.bounds) ranges) ≡ true → test_ranges ranges ≡ Ok tt
unfolding test_ranges
ranges-pass ranges h good =
    let own : apart name_eq ranges ≡ true = apart-of bytes_eq (λ (r : RangeForm). r.name) ranges ∙ h in
    tested-passes is_bad_range (λ (r : RangeForm). bad_range r.name) ranges
    (λ before x rest e.
    let bounds : list_all is_range (map (λ (r : RangeForm). r.bounds) before ++ x.bounds ∷ map (λ (r : RangeForm). r.bounds) rest) ≡ true =
    ap (list_all is_range) (sym (map-append (λ (r : RangeForm). r.bounds) before (x ∷ rest)) ∙ ap (map (λ (r : RangeForm). r.bounds)) e) ∙ good in
    or_from (list_any (name_eq x) before) (not (is_range x.bounds)) (before-apart name_eq (λ r q. bytes_eq-symmetric r.name q.name) before x rest (ap (apart name_eq) e ∙ own))
    (not_from_true (is_range x.bounds) (one-passes is_range (map (λ (r : RangeForm). r.bounds) before) x.bounds (map (λ (r : RangeForm). r.bounds) rest) bounds)))
    ranges [] refl

-- ---- tests that were passed

-- what passes a test, after some more, passes a weaker one
tested-weaker : {A : Type 0} (is_bad other : List A → A → Bool) (refusal : A → Refusal) (more : List A) → ((before : List A) (x : A) → is_bad before x ≡ false → other (more ++ before) x ≡ false)
    → (xs before : List A) → tested_onto is_bad refusal before xs ≡ Ok tt → tested_onto other refusal (more ++ before) xs ≡ Ok tt
unfolding tested_onto
tested-weaker is_bad other refusal more weaker [] before h = refl
tested-weaker is_bad other refusal more weaker (x ∷ xs) before h = go (is_bad before x) refl (tested-weaker is_bad other refusal more weaker xs (before ++ x ∷ [])) h
  where
    go : (b : Bool) → is_bad before x ≡ b → (tested_onto is_bad refusal (before ++ x ∷ []) xs ≡ Ok tt → tested_onto other refusal (more ++ (before ++ x ∷ [])) xs ≡ Ok tt)
        → cond b (Err (refusal x)) (tested_onto is_bad refusal (before ++ x ∷ []) xs) ≡ Ok tt → cond (other (more ++ before) x) (Err (refusal x)) (tested_onto other refusal ((more ++ before) ++ x ∷ []) xs) ≡ Ok tt
    go true e next k = cc
    go false e next k = rw (weaker before x e, append_assoc more before (x ∷ [])) (next k)

pub sizes-passed : (sizes : List Name) → test_sizes sizes ≡ Ok tt → are_distinct_names (codes "one" ∷ sizes) ≡ true
unfolding test_sizes
sizes-passed sizes h =
    let other = tested-weaker is_bad_size is_among bad_size (codes "one" ∷ []) (λ before x e. (or_parts (nat_le 16 (length before)) (list_any (bytes_eq x) (codes "one" ∷ before)) e).1) sizes [] h in
    let r = tested-apart bytes_eq bad_size bytes_eq-symmetric sizes (codes "one" ∷ []) other in
    apart-distinct (codes "one" ∷ sizes) (and-both (not (list_any (bytes_eq (codes "one")) sizes)) (apart bytes_eq sizes)
    (not_from_false (list_any (bytes_eq (codes "one")) sizes) (clear-last bytes_eq bytes_eq-symmetric [] (codes "one") sizes r.0)) r.1)

pub ranges-passed : (ranges : List RangeForm) → test_ranges ranges ≡ Ok tt → are_distinct_names (map (λ (r : RangeForm). r.name) ranges) ≡ true
unfolding test_ranges
ranges-passed ranges h =
    let bad : RangeForm → Refusal = λ r. bad_range r.name in
    let other = tested-weaker is_bad_range (λ before r. list_any (name_eq r) before) bad [] (λ before r e. (or_parts (list_any (name_eq r) before) (not (is_range r.bounds)) e).0) ranges [] h in
    let r = tested-apart name_eq bad (λ r q. bytes_eq-symmetric r.name q.name) ranges [] other in
    apart-distinct (map (λ (r : RangeForm). r.name) ranges) (sym (apart-of bytes_eq (λ (r : RangeForm). r.name) ranges) ∙ r.1)
