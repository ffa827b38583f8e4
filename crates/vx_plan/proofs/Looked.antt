-- Columns, relations, sizes and ranges: what is found has the name that was asked for, and is found again by it.
use Rattle.std.proofs.Common.{◌≡◌, ℕ, zero, suc, ◌<◌, ◌==◌, ◌&&◌, nat_lt, List, [], ◌∷◌, Bool, true, false, not, cond, Option, Some, None, Ok, map, length, position, get_or, bytes_eq, codes, refl, sym, ap, ◌∙◌, subst, true≢false, arith}
use Rattle.std.specs.List.{list_any, list_all}
use Rattle.std.proofs.lemmas.List.{length-map}
use Rattle.std.proofs.lemmas.List.Folds.{list_any_at}
use Rattle.std.proofs.lemmas.List.Quantifiers.{position-Some}
use Rattle.std.proofs.lemmas.Bool.{not-true, not_from_false, ltb-true, eq-eqb, or_parts, or_from}
use Rattle.std.proofs.lemmas.Slice.Eq.{bytes_eq-Decides}
use Rattle.vx_rows_values.specs.Values.{Name}
use Rattle.vx_rows_values.specs.Ranges.{RangeForm}
use Rattle.vx_rows_values.proofs.Booleans.{and-left, and-right, and-both}
use Rattle.vx_rows_values.proofs.ClashFacts.{position-is}
use Rattle.vx_catalog_relations.specs.Relation.{Relation}
use Rattle.vx_catalog_relations.specs.Catalog.{all_below, are_distinct}
use Rattle.vx_catalog_relations.specs.Naming.{name_at}
use Rattle.vx_catalog_relations.proofs.NameFacts.{position-map}
use Rattle.vx_plan_nodes.specs.Plan.{Size, one_worker, group_of}
use Rattle.vx_plan_nodes.specs.Names.{Names}
use Rattle.vx_plan_nodes.specs.Typed.{are_columns, are_distinct_pairs, is_size}
use Rattle.vx_plan_json.proofs.Holds.{holds_at}
use Rattle.vx_plan.specs.Lookup.{column_or, find_column, find_columns, find_keys, test_distinct, test_distinct_keys, size_or, find_size, range_or, find_range, pair_eq}
use Rattle.vx_plan.specs.Resolve.{relation_or, find_relation}
use Rattle.vx_plan.specs.ByName.{names_at, relation_name, range_name, size_name}
use Rattle.vx_plan.proofs.Apart.{apart, apart-columns, apart-pairs, bytes_eq-symmetric}
use Rattle.vx_plan.proofs.FoundFacts.{IsColumn, column-found, AreColumns, columns-found, AreKeys, keys-found}
use Rattle.vx_plan.proofs.Each.{each-again, walk-each}
use Rattle.vx_plan.proofs.Passed.{test_distinct-passes, test_distinct_keys-passes}

-- what a plan declares, and the relations of its catalog, by names of their own
pub record AreDeclared (s : Names) : Type 0 where
  pub sizes : apart bytes_eq (codes "one" ∷ s.sizes) ≡ true
  pub ranges : apart bytes_eq (map (λ (r : RangeForm). r.name) s.ranges) ≡ true
  pub relations : apart bytes_eq (map (λ (r : Relation). r.name) s.catalog) ≡ true

-- ---- what is found has the name

pub column-said : (node : ℕ) (names : List Name) (name : Name) (c : ℕ) → find_column node names name ≡ Ok c → IsColumn names name c
column-said node names name c h = holds_at (IsColumn names name) (find_column node names name) c (column-found node names name) h

pub columns-said : (node : ℕ) (names list : List Name) (cols : List ℕ) → find_columns node names list ≡ Ok cols → names_at names cols ≡ list
columns-said node names list cols h = (holds_at (AreColumns names list) (find_columns node names list) cols (columns-found node names list) h).named

keys-named : (names : List Name) (keys : List (List Name)) (ks : List (List ℕ)) → AreKeys names keys ks → map (names_at names) ks ≡ keys
keys-named names [] [] h = refl
keys-named names [] (k ∷ ks) h = absurd h
keys-named names (l ∷ ls) [] h = absurd h
keys-named names (l ∷ ls) (k ∷ ks) h =
    let a : names_at names k ≡ l = h.0.named in
    let b : map (names_at names) ks ≡ ls = keys-named names ls ks h.1 in
    cc

pub keys-said : (node : ℕ) (names : List Name) (keys : List (List Name)) (ks : List (List ℕ)) → find_keys node names keys ≡ Ok ks → map (names_at names) ks ≡ keys
keys-said node names keys ks h = keys-named names keys ks (holds_at (AreKeys names keys) (find_keys node names keys) ks (keys-found node names keys) h)

-- the name at the position of a name
at-position : (names : List Name) (name : Name) (k : ℕ) → position (bytes_eq name) names ≡ Some k → name_at names k ≡ name
at-position names name k h = sym ((bytes_eq-Decides name (get_or names k [])).0 (position-Some (bytes_eq name) names k [] h).1)

pub relation-said : (s : Names) (node : ℕ) (name : Name) (r : ℕ) → find_relation s node name ≡ Ok r → relation_name s r ≡ name
unfolding find_relation
relation-said s node name r h = go (position (λ (r : Relation). bytes_eq name r.name) s.catalog) (position-map (bytes_eq name) (λ (r : Relation). r.name) s.catalog) h
  where
    go : (o : Option ℕ) → position (bytes_eq name) (map (λ (r : Relation). r.name) s.catalog) ≡ o → relation_or node name o ≡ Ok r → relation_name s r ≡ name
    go None e k = cc
    go (Some q) e k =
        let same : q ≡ r = cc in
        at-position (map (λ (r : Relation). r.name) s.catalog) name r (e ∙ ap (λ q. Some q) same)

pub range-said : (s : Names) (node : ℕ) (name : Name) (k : ℕ) → find_range s node name ≡ Ok k → range_name s k ≡ name
unfolding find_range
range-said s node name r h = go (position (λ (r : RangeForm). bytes_eq name r.name) s.ranges) (position-map (bytes_eq name) (λ (r : RangeForm). r.name) s.ranges) h
  where
    go : (o : Option ℕ) → position (bytes_eq name) (map (λ (r : RangeForm). r.name) s.ranges) ≡ o → range_or node name o ≡ Ok r → range_name s r ≡ name
    go None e k = cc
    go (Some q) e k =
        let same : q ≡ r = cc in
        at-position (map (λ (r : RangeForm). r.name) s.ranges) name r (e ∙ ap (λ q. Some q) same)

pub size-said : (s : Names) (name : Name) (z : Size) → find_size s name ≡ Ok z → size_name s z ≡ name
unfolding find_size
size-said s name z h = go (bytes_eq name (codes "one")) refl h
  where
    declared : (o : Option ℕ) → position (bytes_eq name) s.sizes ≡ o → size_or name o ≡ Ok z → size_name s z ≡ name
    declared None e k = cc
    declared (Some q) e k = let same : group_of q ≡ z = cc in rw (← same) (at-position s.sizes name q e)

    go : (b : Bool) → bytes_eq name (codes "one") ≡ b → cond b (Ok one_worker) (size_or name (position (bytes_eq name) s.sizes)) ≡ Ok z → size_name s z ≡ name
    go true e k = let same : one_worker ≡ z = cc in rw (← same) (sym ((bytes_eq-Decides name (codes "one")).0 e))
    go false e k = declared (position (bytes_eq name) s.sizes) refl k

-- ---- and is found again

other-name : (names : List Name) (x : Name) (i : ℕ) (b : Bool) → bytes_eq x (name_at names i) ≡ b → list_any (bytes_eq x) names ≡ false → i < length names → b ≡ false
other-name names x i false e h l = refl
other-name names x i true e h l = absurd (true≢false (sym (list_any_at (bytes_eq x) names i [] l e) ∙ h))

two-apart : (names : List Name) (k i : ℕ) → apart bytes_eq names ≡ true → k < i → i < length names → bytes_eq (name_at names k) (name_at names i) ≡ false
two-apart [] k i h l m = absurd (omega arith)
two-apart (x ∷ xs) k zero h l m = absurd (omega arith)
two-apart (x ∷ xs) zero (suc i) h l m = other-name xs x i _ refl (not-true (list_any (bytes_eq x) xs) (and-left (not (list_any (bytes_eq x) xs)) (apart bytes_eq xs) h)) (omega arith)
two-apart (x ∷ xs) (suc k) (suc i) h l m = two-apart xs k i (and-right (not (list_any (bytes_eq x) xs)) (apart bytes_eq xs) h) (omega arith) (omega arith)

other-way : (a b : Name) (r : Bool) → bytes_eq b a ≡ r → bytes_eq a b ≡ false → r ≡ false
other-way a b false e h = refl
other-way a b true e h = absurd (true≢false (sym (bytes_eq-symmetric b a e) ∙ h))

position-again : (names : List Name) (c : ℕ) → apart bytes_eq names ≡ true → nat_lt c (length names) ≡ true → position (bytes_eq (name_at names c)) names ≡ Some c
position-again names c h l =
    let below : c < length names = ltb-true c (length names) l in
    position-is (bytes_eq (name_at names c)) names c [] below (λ k m. other-way (get_or names k []) (name_at names c) _ refl (two-apart names k c h m below))
    ((bytes_eq-Decides (name_at names c) (name_at names c)).1 refl)

pub column-again : (node : ℕ) (names : List Name) (c : ℕ) → apart bytes_eq names ≡ true → nat_lt c (length names) ≡ true → find_column node names (name_at names c) ≡ Ok c
unfolding find_column
column-again node names c h l = ap (column_or node (name_at names c)) (position-again names c h l)

pub columns-again : (node : ℕ) (names : List Name) (cols : List ℕ) → apart bytes_eq names ≡ true → all_below (length names) cols ≡ true → find_columns node names (names_at names cols) ≡ Ok cols
unfolding find_columns
columns-again node names cols h below =
    walk-each (find_column node names) (names_at names cols) [] cols
    (each-again (find_column node names) (name_at names) (λ c. nat_lt c (length names)) (λ c l. column-again node names c h l) cols below)

pub keys-again : (node : ℕ) (names : List Name) (keys : List (List ℕ)) → apart bytes_eq names ≡ true → list_all (are_columns (length names)) keys ≡ true → find_keys node names (map (names_at names) keys) ≡ Ok keys
unfolding find_keys
keys-again node names keys h all =
    walk-each (find_columns node names) (map (names_at names) keys) [] keys
    (each-again (find_columns node names) (names_at names) (are_columns (length names))
    (λ k a. columns-again node names k h (and-left (all_below (length names) k) (are_distinct k) a)) keys all)

pub relation-again : (s : Names) (node : ℕ) (r : ℕ) → AreDeclared s → nat_lt r (length s.catalog) ≡ true → find_relation s node (relation_name s r) ≡ Ok r
unfolding find_relation
relation-again s node r d l =
    let names : List Name = map (λ (r : Relation). r.name) s.catalog in
    let P : ℕ → Type 0 = λ n. nat_lt r n ≡ true in
    let at = position-again names r d.relations (subst P (sym (length-map s.catalog (λ (r : Relation). r.name))) l) in
    ap (relation_or node (relation_name s r)) (sym (position-map (bytes_eq (relation_name s r)) (λ (r : Relation). r.name) s.catalog) ∙ at)

pub range-again : (s : Names) (node : ℕ) (k : ℕ) → AreDeclared s → nat_lt k (length (map (λ (r : RangeForm). r.bounds) s.ranges)) ≡ true → find_range s node (range_name s k) ≡ Ok k
unfolding find_range
range-again s node k d l =
    let names : List Name = map (λ (r : RangeForm). r.name) s.ranges in
    let P : ℕ → Type 0 = λ n. nat_lt k n ≡ true in
    let at = position-again names k d.ranges (subst P (length-map s.ranges (λ (r : RangeForm). r.bounds) ∙ sym (length-map s.ranges (λ (r : RangeForm). r.name))) l) in
    ap (range_or node (range_name s k)) (sym (position-map (bytes_eq (range_name s k)) (λ (r : RangeForm). r.name) s.ranges) ∙ at)

pub size-again : (s : Names) (z : Size) → AreDeclared s → is_size (length s.sizes) z ≡ true → find_size s (size_name s z) ≡ Ok z
unfolding find_size
size-again s one_worker d h = refl
size-again s (group_of k) d h =
    let first : Bool = not (list_any (bytes_eq (codes "one")) s.sizes) in
    let other = other-way (codes "one") (name_at s.sizes k) _ refl
    (other-name s.sizes (codes "one") k _ refl (not-true (list_any (bytes_eq (codes "one")) s.sizes) (and-left first (apart bytes_eq s.sizes) d.sizes)) (ltb-true k (length s.sizes) h)) in
    rw other (ap (size_or (name_at s.sizes k)) (position-again s.sizes k (and-right first (apart bytes_eq s.sizes) d.sizes) h))

-- ---- names of columns that stand once stand once

same-column : (names : List Name) (c d : ℕ) → apart bytes_eq names ≡ true → nat_lt c (length names) ≡ true → nat_lt d (length names) ≡ true → bytes_eq (name_at names c) (name_at names d) ≡ true → c ≡ d
same-column names c d h l m e =
    let one : position (bytes_eq (name_at names c)) names ≡ Some c = position-again names c h l in
    let two : position (bytes_eq (name_at names d)) names ≡ Some d = position-again names d h m in
    let same : name_at names c ≡ name_at names d = (bytes_eq-Decides (name_at names c) (name_at names d)).0 e in
    let both : position (bytes_eq (name_at names c)) names ≡ position (bytes_eq (name_at names d)) names = ap (λ n. position (bytes_eq n) names) same in
    cc

none-alike : {A B : Type 0} (eq : A → A → Bool) (same : B → B → Bool) (f : A → B) (p : A → Bool) → ((x y : A) → p x ≡ true → p y ≡ true → same (f x) (f y) ≡ true → eq x y ≡ true)
    → (x : A) (ys : List A) → p x ≡ true → list_all p ys ≡ true → list_any (eq x) ys ≡ false → list_any (same (f x)) (map f ys) ≡ false
none-alike eq same f p back x [] px all h = refl
none-alike eq same f p back x (y ∷ ys) px all h =
    let parts = or_parts (eq x y) (list_any (eq x) ys) h in
    or_from (same (f x) (f y)) (list_any (same (f x)) (map f ys)) (go (same (f x) (f y)) refl parts.0) (none-alike eq same f p back x ys px (and-right (p y) (list_all p ys) all) parts.1)
  where
    go : (b : Bool) → same (f x) (f y) ≡ b → eq x y ≡ false → b ≡ false
    go true e k = absurd (true≢false (sym (back x y px (and-left (p y) (list_all p ys) all) e) ∙ k))
    go false e k = refl

pub apart-names : {A B : Type 0} (eq : A → A → Bool) (same : B → B → Bool) (f : A → B) (p : A → Bool) → ((x y : A) → p x ≡ true → p y ≡ true → same (f x) (f y) ≡ true → eq x y ≡ true)
    → (xs : List A) → list_all p xs ≡ true → apart eq xs ≡ true → apart same (map f xs) ≡ true
apart-names eq same f p back [] all h = refl
apart-names eq same f p back (x ∷ xs) all h =
    let first : Bool = not (list_any (eq x) xs) in
    and-both (not (list_any (same (f x)) (map f xs))) (apart same (map f xs))
    (not_from_false (list_any (same (f x)) (map f xs)) (none-alike eq same f p back x xs (and-left (p x) (list_all p xs) all) (and-right (p x) (list_all p xs) all) (not-true (list_any (eq x) xs) (and-left first (apart eq xs) h))))
    (apart-names eq same f p back xs (and-right (p x) (list_all p xs) all) (and-right first (apart eq xs) h))

pub names-once : (names : List Name) (cols : List ℕ) → apart bytes_eq names ≡ true → are_columns (length names) cols ≡ true → apart bytes_eq (names_at names cols) ≡ true
names-once names cols h k =
    apart-names (λ (x y : ℕ). x == y) bytes_eq (name_at names) (λ c. nat_lt c (length names)) (λ c d l m e. eq-eqb c d (same-column names c d h l m e)) cols
    (and-left (all_below (length names) cols) (are_distinct cols) k) (apart-columns cols ∙ and-right (all_below (length names) cols) (are_distinct cols) k)

pub columns_once-again : (node : ℕ) (names : List Name) (cols : List ℕ) → apart bytes_eq names ≡ true → are_columns (length names) cols ≡ true → test_distinct node (names_at names cols) ≡ Ok tt
columns_once-again node names cols h k = test_distinct-passes node (names_at names cols) (names-once names cols h k)

all-once : (names : List Name) (keys : List (List ℕ)) → apart bytes_eq names ≡ true → list_all (are_columns (length names)) keys ≡ true → list_all (apart bytes_eq) (map (names_at names) keys) ≡ true
all-once names [] h all = refl
all-once names (k ∷ keys) h all =
    and-both (apart bytes_eq (names_at names k)) (list_all (apart bytes_eq) (map (names_at names) keys))
    (names-once names k h (and-left (are_columns (length names) k) (list_all (are_columns (length names)) keys) all))
    (all-once names keys h (and-right (are_columns (length names) k) (list_all (are_columns (length names)) keys) all))

pub test_distinct_keys-again : (node : ℕ) (names : List Name) (keys : List (List ℕ)) → apart bytes_eq names ≡ true → list_all (are_columns (length names)) keys ≡ true → test_distinct_keys node (map (names_at names) keys) ≡ Ok tt
test_distinct_keys-again node names keys h all = test_distinct_keys-passes node (map (names_at names) keys) (all-once names keys h all)

-- the pairs of columns of two inputs
abbrev pub is_pair_below : List Name → List Name → ℕ × ℕ → Bool
is_pair_below left right p = nat_lt p.0 (length left) && nat_lt p.1 (length right)

pub pairs-once : (left right : List Name) (on : List (ℕ × ℕ)) → apart bytes_eq left ≡ true → apart bytes_eq right ≡ true → list_all (is_pair_below left right) on ≡ true → are_distinct_pairs on ≡ true
    → apart pair_eq (map (λ (p : ℕ × ℕ). (name_at left p.0, name_at right p.1)) on) ≡ true
pairs-once left right on hl hr all h =
    apart-names (λ (x y : ℕ × ℕ). (x.0 == y.0) && (x.1 == y.1)) pair_eq (λ (p : ℕ × ℕ). (name_at left p.0, name_at right p.1)) (is_pair_below left right)
    (λ x y px py e.
    let xl = and-left (nat_lt x.0 (length left)) (nat_lt x.1 (length right)) px in
    let xr = and-right (nat_lt x.0 (length left)) (nat_lt x.1 (length right)) px in
    let yl = and-left (nat_lt y.0 (length left)) (nat_lt y.1 (length right)) py in
    let yr = and-right (nat_lt y.0 (length left)) (nat_lt y.1 (length right)) py in
    let el = and-left (bytes_eq (name_at left x.0) (name_at left y.0)) (bytes_eq (name_at right x.1) (name_at right y.1)) e in
    let er = and-right (bytes_eq (name_at left x.0) (name_at left y.0)) (bytes_eq (name_at right x.1) (name_at right y.1)) e in
    and-both (x.0 == y.0) (x.1 == y.1) (eq-eqb x.0 y.0 (same-column left x.0 y.0 hl xl yl el)) (eq-eqb x.1 y.1 (same-column right x.1 y.1 hr xr yr er)))
    on all (apart-pairs on ∙ h)
