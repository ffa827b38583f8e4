-- Columns that were found: they stand in the input, and have the names that were asked for.
use Rattle.std.proofs.Common.{◌≡◌, ℕ, ◌+◌, nat_lt, List, [], ◌∷◌, ◌++◌, true, Option, Some, None, Result, Ok, Err, map, length, position, bytes_eq, get_or, refl, sym, ap, ◌∙◌, subst, append_assoc, append-nil, lt-ltb}
use Rattle.std.specs.Prelude.{⊤}
use Rattle.std.specs.List.{list_all}
use Rattle.std.proofs.lemmas.List.{length_push, map_push}
use Rattle.std.proofs.lemmas.List.Quantifiers.{position-Some}
use Rattle.std.proofs.lemmas.Slice.Eq.{bytes_eq-Decides}
use Rattle.vx_catalog_relations.specs.Catalog.{all_below, are_distinct}
use Rattle.vx_plan_nodes.specs.Typed.{are_columns}
use Rattle.vx_rows_values.specs.Lists.{is_some_list}
use Rattle.vx_rows_values.specs.Values.{Name}
use Rattle.vx_plan_json.specs.Fault.{Refusal}
use Rattle.vx_plan.specs.Lookup.{walk_onto, column_or, find_column, find_columns, find_keys, test_distinct, test_distinct_keys}
use Rattle.vx_plan_json.proofs.Holds.{all_push, Holds, holds_then}
use Rattle.vx_rows_values.proofs.Booleans.{and-left, and-right, and-both}
use Rattle.vx_plan.proofs.Apart.{apart, test_distinct-apart, distinct-columns}

-- the name of a column
abbrev pub name_of : List Name → ℕ → Name
name_of names c = get_or names c []

pub record IsColumn (names : List Name) (name : Name) (c : ℕ) : Type 0 where
  pub below : nat_lt c (length names) ≡ true
  pub named : name_of names c ≡ name

column_or-found : (node : ℕ) (names : List Name) (name : Name) (o : Option ℕ) → position (bytes_eq name) names ≡ o → Holds (IsColumn names name) (column_or node name o)
column_or-found node names name None h = tt
column_or-found node names name (Some c) h =
    let p = position-Some (bytes_eq name) names c [] h in
    record { below = lt-ltb c (length names) p.0; named = sym ((bytes_eq-Decides name (name_of names c)).0 p.1) }

pub column-found : (node : ℕ) (names : List Name) (name : Name) → Holds (IsColumn names name) (find_column node names name)
unfolding find_column
column-found node names name = column_or-found node names name (position (bytes_eq name) names) refl

-- what holds of each answer of a walk, and of the lists so far
pub walk-holds : {A B : Type 0} (f : A → Result B Refusal) (P : A → B → Type 0) (Q : List A → List B → Type 0) → ((x : A) → Holds (P x) (f x))
    → ((xs : List A) (ys : List B) (x : A) (y : B) → Q xs ys → P x y → Q (xs ++ x ∷ []) (ys ++ y ∷ [])) → (xs : List A) (done : List A) (ys : List B) → Q done ys → Holds (Q (done ++ xs)) (walk_onto f ys xs)
unfolding walk_onto
walk-holds f P Q each push [] done ys h = let R : List _ → Type 0 = λ zs. Q zs ys in subst R (sym (append-nil done)) h
walk-holds f P Q each push (x ∷ xs) done ys h =
    let next : (y : _) → P x y → Holds (Q (done ++ x ∷ xs)) (walk_onto f (ys ++ y ∷ []) xs) =
    λ y p. let R : List _ → Type 0 = λ zs. Holds (Q zs) (walk_onto f (ys ++ y ∷ []) xs) in
    subst R (append_assoc done (x ∷ []) xs) (walk-holds f P Q each push xs (done ++ x ∷ []) (ys ++ y ∷ []) (push done ys x y h p)) in
    holds_then (P x) (Q (done ++ x ∷ xs)) (λ y. walk_onto f (ys ++ y ∷ []) xs) (f x) (each x) next

-- as many answers as there were questions
pub walk-length : {A B : Type 0} (f : A → Result B Refusal) (xs : List A) → Holds (λ ys. length ys ≡ length xs) (walk_onto f [] xs)
walk-length f xs = walk-holds f (λ x y. ⊤) (λ as' bs. length bs ≡ length as') (λ x. any-answer (f x)) (λ as' bs x y h p. length_push bs y ∙ ap (λ n. n + 1) h ∙ sym (length_push as' x)) xs [] [] refl
  where
    any-answer : {B : Type 0} (r : Result B Refusal) → Holds (λ y. ⊤) r
    any-answer (Ok y) = tt
    any-answer (Err e) = tt

-- these columns have these names
pub record AreColumns (names : List Name) (list : List Name) (cs : List ℕ) : Type 0 where
  pub below : all_below (length names) cs ≡ true
  pub named : map (name_of names) cs ≡ list

pub columns-found : (node : ℕ) (names : List Name) (list : List Name) → Holds (AreColumns names list) (find_columns node names list)
unfolding find_columns
columns-found node names list =
    walk-holds (find_column node names) (IsColumn names) (AreColumns names) (column-found node names)
    (λ xs cs x c h p. record {
      below = all_push (λ c. nat_lt c (length names)) cs c h.below p.below;
      named = map_push (name_of names) cs c ∙ ap (λ zs. zs ++ name_of names c ∷ []) h.named ∙ ap (λ n. xs ++ n ∷ []) p.named;
    }) list [] [] (record { below = refl; named = refl })

-- found columns of names that stand once are columns, none of them twice
pub test_distinct-columns : (names list : List Name) (cs : List ℕ) (w : ℕ) → length names ≡ w → AreColumns names list cs → apart bytes_eq list ≡ true → are_columns w cs ≡ true
test_distinct-columns names list cs w e h a =
    let P : ℕ → Type 0 = λ n. all_below n cs ≡ true in
    let Q : List Name → Type 0 = λ zs. apart bytes_eq zs ≡ true in
    and-both (all_below w cs) (are_distinct cs) (subst P e h.below) (distinct-columns (name_of names) cs (subst Q (sym h.named) a))

-- as many columns as names
pub some-columns : (names list : List Name) (cs : List ℕ) → AreColumns names list cs → is_some_list list ≡ true → is_some_list cs ≡ true
some-columns names [] cs h k = cc
some-columns names (x ∷ list) [] h k = let e = h.named in cc
some-columns names (x ∷ list) (c ∷ cs) h k = refl

-- each key's columns have its names
abbrev pub AreKeys : List Name → List (List Name) → List (List ℕ) → Type 0
AreKeys names [] [] = Unit {0}
AreKeys names [] (k ∷ ks) = ⊥
AreKeys names (l ∷ ls) [] = ⊥
AreKeys names (l ∷ ls) (k ∷ ks) = AreColumns names l k × AreKeys names ls ks

keys-push : (names : List Name) (ls : List (List Name)) (ks : List (List ℕ)) (l : List Name) (k : List ℕ) → AreKeys names ls ks → AreColumns names l k → AreKeys names (ls ++ l ∷ []) (ks ++ k ∷ [])
keys-push names [] [] l k h p = (p, tt)
keys-push names [] (x ∷ ks) l k h p = absurd h
keys-push names (x ∷ ls) [] l k h p = absurd h
keys-push names (x ∷ ls) (y ∷ ks) l k h p = (h.0, keys-push names ls ks l k h.1 p)

pub keys-found : (node : ℕ) (names : List Name) (keys : List (List Name)) → Holds (AreKeys names keys) (find_keys node names keys)
unfolding find_keys
keys-found node names keys = walk-holds (find_columns node names) (AreColumns names) (AreKeys names) (columns-found node names) (λ ls ks l k h p. keys-push names ls ks l k h p) keys [] [] tt

pub test_distinct_keys-apart : (node : ℕ) (keys : List (List Name)) → Holds (λ (u : ⊤). list_all (apart bytes_eq) keys ≡ true) (test_distinct_keys node keys)
unfolding test_distinct_keys
test_distinct_keys-apart node [] = refl
test_distinct_keys-apart node (k ∷ keys) =
    holds_then (λ (u : ⊤). apart bytes_eq k ≡ true) (λ (u : ⊤). list_all (apart bytes_eq) (k ∷ keys) ≡ true) (λ u. test_distinct_keys node keys) (test_distinct node k) (test_distinct-apart node k)
    (λ u h. holds-weaker (test_distinct_keys node keys) (λ v a. and-both (apart bytes_eq k) (list_all (apart bytes_eq) keys) h a) (test_distinct_keys-apart node keys))
  where
    holds-weaker : {A : Type 0} {P Q : A → Type 0} (r : Result A Refusal) → ((x : A) → P x → Q x) → Holds P r → Holds Q r
    holds-weaker (Ok x) f h = f x h
    holds-weaker (Err e) f h = tt

pub test_distinct-keys : (names : List Name) (keys : List (List Name)) (ks : List (List ℕ)) (w : ℕ) → length names ≡ w → AreKeys names keys ks → list_all (apart bytes_eq) keys ≡ true → list_all (are_columns w) ks ≡ true
test_distinct-keys names [] [] w e h a = refl
test_distinct-keys names [] (k ∷ ks) w e h a = absurd h
test_distinct-keys names (l ∷ keys) [] w e h a = absurd h
test_distinct-keys names (l ∷ keys) (k ∷ ks) w e h a =
    and-both (are_columns w k) (list_all (are_columns w) ks) (test_distinct-columns names l k w e h.0 (and-left (apart bytes_eq l) (list_all (apart bytes_eq) keys) a))
    (test_distinct-keys names keys ks w e h.1 (and-right (apart bytes_eq l) (list_all (apart bytes_eq) keys) a))
