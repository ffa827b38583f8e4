-- Each catalog is read of a value that says it.
use Rattle.std.proofs.Common.{◌≡◌, ℕ, zero, suc, ◌<◌, ◌==◌, ◌||◌, not, nat_lt, nat_le, Bool, true, false, List, [], ◌∷◌, ◌++◌, Some, Result, Ok, refl, sym, ap, subst, ◌∙◌, map, get_or, length, position, append_assoc, bytes_eq, arith, true≢false}
use Rattle.std.specs.List.{list_all, list_any}
use Rattle.std.proofs.lemmas.Bool.{and_parts, and_from, or_from, not-true}
use Rattle.std.proofs.lemmas.List.{append-nil, map-id, map-append, length-map, length-append}
use Rattle.std.proofs.Math.Seq.{get_or-append_seam}
use Rattle.std.proofs.lemmas.List.Folds.{list_any-append, list_all-append, list_any_at}
use Rattle.std.proofs.lemmas.Bool.Decides.{Decides-ltb}
use Rattle.serde_json.specs.Data.{Data}
use Rattle.vx_rows_values.specs.declared.value.ColType.{ColType}
use Rattle.vx_rows_values.specs.Order.{order_columns}
use Rattle.vx_rows_values.proofs.ClashFacts.{position-is}
use Rattle.vx_catalog_relations.specs.Relation.{Relation}
use Rattle.vx_catalog_relations.specs.Catalog.{relation_at, are_distinct_names, are_distinct, all_below, is_key_of, IsRelation, IsCatalog}
use Rattle.vx_catalog_relations.specs.Walk.{◌>>=◌, walk_onto}
use Rattle.vx_catalog_relations.specs.Form.{ColumnText}
use Rattle.vx_catalog_relations.specs.Naming.{name_once, names_of, column_of, columns_of, keys_of, relation_of, relation_after, is_small, catalog_of, columns_text, name_at, text_of, States}
use Rattle.vx_catalog_relations.proofs.NameFacts.{text_decides, list_any-map}
use Rattle.vx_catalog_relations.proofs.NamingFacts.{relation_made}
use Rattle.vx_catalog_relations.proofs.DirectionFacts.{order_found}

-- each element comes back of what it looks like
walk_finds : {E A B : Type 0} (look : B → A) (step : List B → A → Result B E) (whole : List B)
    → ((prior : List B) (y : B) (rest : List B) → prior ++ y ∷ rest ≡ whole → step prior (look y) ≡ Ok y)
    → (ys prior : List B) → prior ++ ys ≡ whole → walk_onto step prior (map look ys) ≡ Ok whole
unfolding walk_onto
walk_finds look step whole finds [] prior e = ap (λ (l : List _). Ok l) (sym (append-nil prior) ∙ e)
walk_finds look step whole finds (y ∷ ys) prior e =
    ap (λ (r : Result _ _). r >>= λ (y : _). walk_onto step (prior ++ y ∷ []) (map look ys)) (finds prior y ys e)
    ∙ walk_finds look step whole finds ys (prior ++ y ∷ []) (append_assoc prior (y ∷ []) ys ∙ e)

first_of_rest : (a b c : Bool) → (a || (b || c)) ≡ false → b ≡ false
first_of_rest true b c h = cc
first_of_rest false true c h = cc
first_of_rest false false c h = refl

names_apart : (prior : List (List ℕ)) (y : List ℕ) (rest : List (List ℕ)) → are_distinct_names (prior ++ y ∷ rest) ≡ true → list_any (λ z. bytes_eq z y) prior ≡ false
names_apart [] y rest h = refl
names_apart (x ∷ xs) y rest h =
    let parts = and_parts (not (list_any (bytes_eq x) (xs ++ y ∷ rest))) (are_distinct_names (xs ++ y ∷ rest)) h in
    let none = sym (list_any-append (bytes_eq x) xs (y ∷ rest)) ∙ not-true _ parts.0 in
    or_from _ _ (first_of_rest (list_any (bytes_eq x) xs) (bytes_eq x y) (list_any (bytes_eq x) rest) none) (names_apart xs y rest parts.1)

columns_apart : (prior : List ℕ) (y : ℕ) (rest : List ℕ) → are_distinct (prior ++ y ∷ rest) ≡ true → list_any (λ z. z == y) prior ≡ false
columns_apart [] y rest h = refl
columns_apart (x ∷ xs) y rest h =
    let parts = and_parts (not (list_any (λ z. x == z) (xs ++ y ∷ rest))) (are_distinct (xs ++ y ∷ rest)) h in
    let none = sym (list_any-append (λ z. x == z) xs (y ∷ rest)) ∙ not-true _ parts.0 in
    or_from _ _ (first_of_rest (list_any (λ z. x == z) xs) (x == y) (list_any (λ z. x == z) rest) none) (columns_apart xs y rest parts.1)

-- what all of a list pass, one in the middle passes
one_passes : {X : Type 0} (p : X → Bool) (prior : List X) (y : X) (rest whole : List X) → prior ++ y ∷ rest ≡ whole → list_all p whole ≡ true → p y ≡ true
one_passes p prior y rest whole e h =
    (and_parts (p y) (list_all p rest) (and_parts (list_all p prior) (list_all p (y ∷ rest)) (sym (list_all-append p prior (y ∷ rest)) ∙ (ap (list_all p) e ∙ h))).1).0

names_found : (names : List (List ℕ)) → are_distinct_names names ≡ true → names_of names ≡ Ok names
unfolding name_once
names_found names h =
    let all : walk_onto name_once [] (map (λ (n : List ℕ). n) names) ≡ Ok names =
    walk_finds (λ (n : List ℕ). n) name_once names (λ prior y rest e. rw (names_apart prior y rest (ap are_distinct_names e ∙ h)) refl) names [] refl in
    rw map-id at all

other_way : (a b : List ℕ) (r : Bool) → bytes_eq b a ≡ r → bytes_eq a b ≡ false → r ≡ false
other_way a b false e h = refl
other_way a b true e h = absurd (true≢false (sym ((text_decides a b).1 (sym ((text_decides b a).0 e))) ∙ h))

not_among : (x : List ℕ) (xs : List (List ℕ)) (i : ℕ) (r : Bool) → bytes_eq x (get_or xs i []) ≡ r → list_any (bytes_eq x) xs ≡ false → i < length xs → r ≡ false
not_among x xs i false e h l = refl
not_among x xs i true e h l = absurd (true≢false (sym (list_any_at (bytes_eq x) xs i [] l e) ∙ h))

two_apart : (names : List (List ℕ)) (k i : ℕ) → are_distinct_names names ≡ true → k < i → i < length names → bytes_eq (get_or names k []) (get_or names i []) ≡ false
two_apart [] k i h l m = absurd (omega arith)
two_apart (x ∷ xs) k zero h l m = absurd (omega arith)
two_apart (x ∷ xs) zero (suc i) h l m =
    not_among x xs i _ refl (not-true _ (and_parts (not (list_any (bytes_eq x) xs)) (are_distinct_names xs) h).0) (omega arith)
two_apart (x ∷ xs) (suc k) (suc i) h l m = two_apart xs k i (and_parts (not (list_any (bytes_eq x) xs)) (are_distinct_names xs) h).1 (omega arith) (omega arith)

position_found : (names : List (List ℕ)) (c : ℕ) → are_distinct_names names ≡ true → c < length names → position (bytes_eq (name_at names c)) names ≡ Some c
position_found names c h l =
    position-is (bytes_eq (name_at names c)) names c [] l
    (λ k m. other_way (get_or names k []) (name_at names c) _ refl (two_apart names k c h m l))
    ((text_decides (name_at names c) (name_at names c)).1 refl)

columns_found : (names : List (List ℕ)) (key : List ℕ) → are_distinct_names names ≡ true → all_below (length names) key ≡ true → are_distinct key ≡ true → columns_of names (map (name_at names) key) ≡ Ok key
unfolding column_of
columns_found names key h below apart =
    walk_finds (name_at names) (column_of names) key
    (λ prior y rest e.
    let there = (Decides-ltb y (length names)).0 (one_passes (λ c. nat_lt c (length names)) prior y rest key e below) in
    rw (position_found names y h there, columns_apart prior y rest (ap are_distinct e ∙ apart)) refl)
    key [] refl

keys_found : (names : List (List ℕ)) (keys : List (List ℕ)) → are_distinct_names names ≡ true → list_all (is_key_of (length names)) keys ≡ true → keys_of (map (λ (k : List ℕ). map (name_at names) k) keys) names ≡ Ok keys
keys_found names keys h all =
    walk_finds (λ (k : List ℕ). map (name_at names) k) (λ (prior : List (List ℕ)) (key : List (List ℕ)). columns_of names key) keys
    (λ prior y rest e.
    let key = and_parts (nat_lt 0 (length y)) _ (one_passes (is_key_of (length names)) prior y rest keys e all) in
    let parts = and_parts (all_below (length names) y) (are_distinct y) key.1 in
    columns_found names y h parts.0 parts.1)
    keys [] refl

names_again : (names : List (List ℕ)) (types : List ColType) → length types ≡ length names → map (λ (c : ColumnText). c.name) (columns_text names types) ≡ names
names_again [] types e = refl
names_again (n ∷ ns) [] e = absurd (omega arith)
names_again (n ∷ ns) (t ∷ ts) e = ap (λ l. n ∷ l) (names_again ns ts (omega arith))

types_again : (names : List (List ℕ)) (types : List ColType) → length types ≡ length names → map (λ (c : ColumnText). c.kind) (columns_text names types) ≡ types
types_again [] [] e = refl
types_again [] (t ∷ ts) e = absurd (omega arith)
types_again (n ∷ ns) [] e = absurd (omega arith)
types_again (n ∷ ns) (t ∷ ts) e = ap (λ l. t ∷ l) (types_again ns ts (omega arith))

relation_found : (r : Relation) → IsRelation r → relation_of (text_of r) ≡ Ok r
relation_found r is =
    let order = and_parts (all_below (length r.names) (order_columns r.order)) (are_distinct (order_columns r.order)) is.order in
    relation_made (text_of r) r.names r.keys r.order (ap names_of (names_again r.names r.types is.typed) ∙ names_found r.names is.distinct)
    (keys_found r.names r.keys is.distinct is.keys) (order_found r.names r.order (columns_found r.names (order_columns r.order) is.distinct order.0 order.1))
    ∙ rw (types_again r.names r.types is.typed) refl

small_text : (r : Relation) → IsRelation r → is_small (text_of r) ≡ true
small_text r is =
    let columns = and_parts (nat_lt 0 (length r.names)) (nat_le (length r.names) 64) is.columns in
    let long : length (columns_text r.names r.types) ≡ length r.names = sym (length-map (columns_text r.names r.types) (λ (c : ColumnText). c.name)) ∙ ap length (names_again r.names r.types is.typed) in
    and_from (nat_le (length (columns_text r.names r.types)) 64) (nat_le (length (text_of r).keys) 16) (rw long columns.1) (rw (length-map r.keys (λ (k : List ℕ). map (name_at r.names) k)) is.few_keys)

small_texts : (catalog : List Relation) → ((i : ℕ) → nat_lt i (length catalog) ≡ true → IsRelation (relation_at catalog i)) → list_all is_small (map text_of catalog) ≡ true
small_texts [] each = refl
small_texts (r ∷ rs) each =
    and_from _ _ (small_text r (each zero ((Decides-ltb 0 (length (r ∷ rs))).1 (omega arith))))
    (small_texts rs (λ i h. each (suc i) (let k = (Decides-ltb i (length rs)).0 h in (Decides-ltb (suc i) (length (r ∷ rs))).1 (omega arith))))

-- a relation of a catalog, in the middle of the others
in_middle : (prior : List Relation) (y : Relation) (rest whole : List Relation) → prior ++ y ∷ rest ≡ whole → ((i : ℕ) → nat_lt i (length whole) ≡ true → IsRelation (relation_at whole i)) → IsRelation y
in_middle prior y rest whole e each =
    let n = ap length e in
    let m = length-append prior (y ∷ rest) in
    subst (λ (r : Relation). IsRelation r) (ap (λ (l : List Relation). relation_at l (length prior)) (sym e) ∙ get_or-append_seam prior y rest _) (each (length prior) ((Decides-ltb (length prior) (length whole)).1 (omega arith)))

relations_found : (catalog : List Relation) → IsCatalog catalog → walk_onto relation_after [] (map text_of catalog) ≡ Ok catalog
unfolding relation_after
relations_found catalog is =
    walk_finds text_of relation_after catalog
    (λ prior y rest e.
    let all = ap (map (λ (r : Relation). r.name)) e in
    let parts = sym (map-append (λ (r : Relation). r.name) prior (y ∷ rest)) ∙ all in
    let new = sym (list_any-map (λ n. bytes_eq n y.name) (λ (r : Relation). r.name) prior) ∙ names_apart (map (λ (r : Relation). r.name) prior) y.name (map (λ (r : Relation). r.name) rest) (ap are_distinct_names parts ∙ is.distinct) in
    rw new (relation_found y (in_middle prior y rest catalog e is.each)))
    catalog [] refl

pub catalog_found : (d : Data) (catalog : List Relation) → IsCatalog catalog → States d catalog → catalog_of d ≡ Ok catalog
unfolding catalog_of
catalog_found d catalog is says =
    let limits = and_from (nat_le (length (map text_of catalog)) 256) _ (rw (length-map catalog text_of) is.few) (small_texts catalog is.each) in
    rw (says, limits) (relations_found catalog is)
