-- The keys that are carried up to a node name its columns.
use Rattle.std.proofs.Common.{◌≡◌, ◌∙◌, ℕ, zero, suc, ◌+◌, ◌<◌, ◌≤◌, ◌==◌, nat_lt, nat_le, Bool, true, false, cond, not, ◌&&◌, ◌||◌, List, [], ◌∷◌, ◌++◌, map, length, flat_map, position, Option, Some, None, refl, sym, ap, subst, arith, lt-ltb, ltb-true}
use Rattle.std.specs.List.{list_all}
use Rattle.std.proofs.lemmas.List.Quantifiers.{position-Some}
use Rattle.std.proofs.lemmas.List.Folds.{list_all-append}
use Rattle.std.proofs.lemmas.List.{append-nil, length-map}
use Rattle.vx_rows_values.proofs.Booleans.{and-left, and-right, and-both}
use Rattle.vx_catalog_relations.specs.Relation.{Relation}
use Rattle.vx_catalog_relations.specs.Catalog.{all_below}
use Rattle.vx_plan_nodes.specs.Plan.{Claim, Unary, select, project, distinct, sort, group, limit, plain, partial, final, Binary, union, join, semi_join, Plan, scan, unary, binary, exchange, claim}
use Rattle.vx_plan_nodes.specs.Phases.{first_columns, columns_from}
use Rattle.vx_plan_nodes.specs.Types.{width}
use Rattle.vx_plan_nodes.specs.Describe.{Copying, whole_rows, entries_kept, kept_column, is_column, right_of, place, key_of_first, keys_kept}
use Rattle.vx_check_rules.specs.Rules.{cons_both, covers}
use Rattle.vx_check_rules.specs.Behaviour.{Keyed, places, kept_keys, first_pair, keys_up, keyed_after, keyed_held, behaviour, node_keys}
use Rattle.vx_check_rules.proofs.Carrying.{kept-whole}

-- ---- places

-- of each of the first v columns the place, if there is one, is one of the first w
abbrev PlacedBelow : Copying → ℕ → ℕ → Type 0
PlacedBelow k v w = (c d : ℕ) → nat_lt c v ≡ true → place k c ≡ Some d → nat_lt d w ≡ true

places-below : (k : Copying) (v w : ℕ) → PlacedBelow k v w → (key x : List ℕ) → all_below v key ≡ true → places k key ≡ Some x → all_below w x ≡ true
places-below k v w placed [] x h e = let is : x ≡ [] = cc in rw is refl
places-below k v w placed (c ∷ cs) x h e =
    by (place k c) (places k cs) refl refl e (λ y f. places-below k v w placed cs y (and-right (nat_lt c v) (all_below v cs) h) f)
  where
    by : (o : Option ℕ) (u : Option (List ℕ)) → place k c ≡ o → places k cs ≡ u → cons_both o u ≡ Some x → ((y : List ℕ) → places k cs ≡ Some y → all_below w y ≡ true) → all_below w x ≡ true
    by None u f g e rest = cc
    by (Some d) None f g e rest = cc
    by (Some d) (Some y) f g e rest =
        let is : x ≡ d ∷ y = cc in
        rw is (and-both (nat_lt d w) (all_below w y) (placed c d (and-left (nat_lt c v) (all_below v cs) h) f) (rest y g))

kept-below : (k : Copying) (v w : ℕ) → PlacedBelow k v w → (keys : List (List ℕ)) → list_all (all_below v) keys ≡ true → list_all (all_below w) (kept_keys k keys) ≡ true
kept-below k v w placed [] h = refl
kept-below k v w placed (key ∷ keys) h =
    by (places k key) refl (kept-below k v w placed keys (and-right (all_below v key) (list_all (all_below v) keys) h))
  where
    by : (o : Option (List ℕ)) → places k key ≡ o → list_all (all_below w) (kept_keys k keys) ≡ true → list_all (all_below w) (kept_keys k (key ∷ keys)) ≡ true
    by None e more = rw e more
    by (Some x) e more =
        rw e (and-both (all_below w x) (list_all (all_below w) (kept_keys k keys)) (places-below k v w placed key x (and-left (all_below v key) (list_all (all_below v) keys) h) e) more)

-- of entries of a projection the places are below their number, and behind w columns those of the first v are below both numbers together
entries-placed : (ks : List (Option ℕ)) (v : ℕ) → PlacedBelow (entries_kept ks) v (length ks)
entries-placed ks v c d h e = lt-ltb d (length ks) (position-Some (is_column c) ks d None e).0

right-placed : (w v : ℕ) → PlacedBelow (right_of w) v (w + v)
right-placed w v c d h e = by (nat_lt c 64) e
  where
    by : (b : Bool) → cond b (Some (w + c)) None ≡ Some d → nat_lt d (w + v) ≡ true
    by true e = let is : d ≡ w + c = cc in let l = ltb-true c v h in lt-ltb d (w + v) (omega (arith, is, l))
    by false e = cc

-- ---- columns of the first w

from-below : (w i n : ℕ) → i + n ≤ w → all_below w (columns_from i n) ≡ true
from-below w i zero h = refl
from-below w i (suc n) h = and-both (nat_lt i w) (all_below w (columns_from (suc i) n)) (lt-ltb i w (omega (arith, h))) (from-below w (suc i) n (omega (arith, h)))

longer-below : (v w : ℕ) → v ≤ w → (key : List ℕ) → all_below v key ≡ true → all_below w key ≡ true
longer-below v w more [] h = refl
longer-below v w more (c ∷ cs) h =
    let l = ltb-true c v (and-left (nat_lt c v) (all_below v cs) h) in
    and-both (nat_lt c w) (all_below w cs) (lt-ltb c w (omega (arith, l, more))) (longer-below v w more cs (and-right (nat_lt c v) (all_below v cs) h))

all-longer : (v w : ℕ) → v ≤ w → (keys : List (List ℕ)) → list_all (all_below v) keys ≡ true → list_all (all_below w) keys ≡ true
all-longer v w more [] h = refl
all-longer v w more (key ∷ keys) h =
    and-both (all_below w key) (list_all (all_below w) keys) (longer-below v w more key (and-left (all_below v key) (list_all (all_below v) keys) h))
    (all-longer v w more keys (and-right (all_below v key) (list_all (all_below v) keys) h))

-- ---- of a node

-- keys that stand where they stood
whole-below : (w : ℕ) (keys : List (List ℕ)) → list_all (all_below w) keys ≡ true → list_all (all_below w) (kept_keys whole_rows keys ++ []) ≡ true
whole-below w keys h = ap (list_all (all_below w)) (append-nil (kept_keys whole_rows keys) ∙ kept-whole keys) ∙ h

-- a key of the first n columns
first-below : (n w : ℕ) → n ≤ w → list_all (all_below w) (kept_keys whole_rows (first_columns n ∷ []) ++ []) ≡ true
first-below n w h = whole-below w (first_columns n ∷ []) (and-both (all_below w (first_columns n)) true (from-below w 0 n (omega (arith, h))) refl)

pair-below : (w : ℕ) (lefts rights : List (List ℕ)) → list_all (all_below w) lefts ≡ true → list_all (all_below w) rights ≡ true → list_all (all_below w) (first_pair lefts rights) ≡ true
pair-below w [] rights h g = refl
pair-below w (k ∷ lefts) [] h g = refl
pair-below w (k ∷ lefts) (j ∷ rights) h g =
    and-both (all_below w (k ++ j)) true
    (list_all-append (λ c. nat_lt c w) k j ∙ and-both (all_below w k) (all_below w j) (and-left (all_below w k) (list_all (all_below w) lefts) h) (and-left (all_below w j) (list_all (all_below w) rights) g)) refl

-- of two inputs: those of either or of both, or a pair of them
held-below : (w : ℕ) (right_held left_held : Bool) (k l : Copying) (lefts rights : List (List ℕ)) → list_all (all_below w) (kept_keys k lefts) ≡ true → list_all (all_below w) (kept_keys l rights) ≡ true
    → list_all (all_below w) (flat_map keys_up (keyed_held right_held left_held (k, lefts) (l, rights))) ≡ true
held-below w true true k l lefts rights h g =
    list_all-append (all_below w) (kept_keys k lefts) (kept_keys l rights ++ [])
    ∙ and-both _ _ h (ap (list_all (all_below w)) (append-nil (kept_keys l rights)) ∙ g)
held-below w true false k l lefts rights h g = ap (list_all (all_below w)) (append-nil (kept_keys k lefts)) ∙ h
held-below w false true k l lefts rights h g = ap (list_all (all_below w)) (append-nil (kept_keys l rights)) ∙ g
held-below w false false k l lefts rights h g =
    ap (list_all (all_below w)) (append-nil (first_pair (kept_keys k lefts) (kept_keys l rights))) ∙ pair-below w (kept_keys k lefts) (kept_keys l rights) h g

-- the keys of the inputs, and those of a relation, name their columns
abbrev pub KeysBelow : (ℕ → Relation) → Plan → Type 0
KeysBelow catalog (scan n c r m z) = list_all (all_below (width catalog (scan n c r m z))) (catalog r).keys ≡ true
KeysBelow catalog (unary n c op p) = list_all (all_below (width catalog p)) (claim p).keys ≡ true
KeysBelow catalog (binary n c op p q) = (list_all (all_below (width catalog p)) (claim p).keys ≡ true) × (list_all (all_below (width catalog q)) (claim q).keys ≡ true)
KeysBelow catalog (exchange n c k m p) = list_all (all_below (width catalog p)) (claim p).keys ≡ true

unary-below : (catalog : ℕ → Relation) (n : ℕ) (c : Claim) (op : Unary) (p : Plan) → list_all (all_below (width catalog p)) (claim p).keys ≡ true
    → list_all (all_below (width catalog (unary n c op p))) (node_keys catalog (unary n c op p)) ≡ true
unary-below catalog n c (select fs) p h = whole-below (width catalog p) (claim p).keys h
unary-below catalog n c (sort false cols) p h = whole-below (width catalog p) (claim p).keys h
unary-below catalog n c (sort true cols) p h = refl
unary-below catalog n c (project es) p h =
    let ks = map kept_column es in
    let keys = kept_keys (entries_kept ks) (claim p).keys in
    ap (list_all (all_below (length es))) (append-nil keys)
    ∙ subst (λ w. list_all (all_below w) keys ≡ true) (length-map es kept_column) (kept-below (entries_kept ks) (width catalog p) (length ks) (entries-placed ks (width catalog p)) (claim p).keys h)
unary-below catalog n c (distinct cols) p h = first-below (length cols) (length cols) (omega arith)
unary-below catalog n c (group plain by aggregates) p h = first-below (length by) (length by + length aggregates) (omega arith)
unary-below catalog n c (group partial by aggregates) p h = refl
unary-below catalog n c (group final by aggregates) p h = first-below (length by) (length by + length aggregates) (omega arith)
unary-below catalog n c (limit m) p h = limited (nat_le m 1)
  where
    limited : (b : Bool) → list_all (all_below (width catalog p)) (flat_map keys_up (keyed_after (cond b (key_of_first 0) keys_kept) whole_rows (claim p).keys)) ≡ true
    limited true = first-below 0 (width catalog p) (omega arith)
    limited false = whole-below (width catalog p) (claim p).keys h

pub node-keys-below : (catalog : ℕ → Relation) (p : Plan) → KeysBelow catalog p → list_all (all_below (width catalog p)) (node_keys catalog p) ≡ true
node-keys-below catalog (scan n c r m z) h = whole-below (width catalog (scan n c r m z)) (catalog r).keys h
node-keys-below catalog (unary n c op p) h = unary-below catalog n c op p h
node-keys-below catalog (binary n c union p q) h = refl
node-keys-below catalog (binary n c (join m on) p q) h =
    let v = width catalog p in
    let w = width catalog q in
    held-below (v + w) (covers (claim q).keys (map (λ x. x.1) on)) (covers (claim p).keys (map (λ x. x.0) on)) whole_rows (right_of v) (claim p).keys (claim q).keys
    (ap (list_all (all_below (v + w))) (kept-whole (claim p).keys) ∙ all-longer v (v + w) (omega arith) (claim p).keys h.0)
    (kept-below (right_of v) w (v + w) (right-placed v w) (claim q).keys h.1)
node-keys-below catalog (binary n c (semi_join matched on conditions) p q) h = whole-below (width catalog p) (claim p).keys h.0
node-keys-below catalog (exchange n c k m p) h = whole-below (width catalog p) (claim p).keys h
