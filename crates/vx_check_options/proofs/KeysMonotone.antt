-- Where the inputs of a node claim more keys, each list of columns that was shown as a key still is.
use Rattle.std.proofs.Common.{◌≡◌, ℕ, ◌==◌, Bool, true, false, ◌&&◌, ◌||◌, List, [], ◌∷◌, map, refl, sym, ap, ◌∙◌, eqb-true}
use Rattle.std.specs.List.{list_any, list_all}
use Rattle.vx_rows_values.proofs.Booleans.{and-left, and-right, and-both}
use Rattle.vx_catalog_relations.specs.Relation.{Relation}
use Rattle.vx_plan_nodes.specs.Plan.{union, join, semi_join, Plan, scan, unary, binary, exchange}
use Rattle.vx_plan_nodes.specs.Types.{width}
use Rattle.vx_plan_nodes.specs.Describe.{Copying, whole_rows, right_of, KeysAfter, keys_kept, key_of_first, no_key, described}
use Rattle.vx_check_rules.specs.Rules.{contains, within, covers, shifted}
use Rattle.vx_check_rules.specs.Behaviour.{keyed_by, keyed_after, keyed_held, keyed_from, has_copy, has_key}
use Rattle.vx_check_rules.proofs.Bools.{or-false, and-true, or-left, or-right, all-more, any-more}
use Rattle.vx_check_rules.proofs.Exact.{covers-behind, join-keys}
use Rattle.vx_check_options.specs.FoundKeys.{show}
use Rattle.vx_check_options.proofs.PlacedOrders.{same-number}

-- what contains one of the first keys contains one of the second
abbrev pub Wider : (first second : List (List ℕ)) → Type 0
Wider first second = (key : List ℕ) → covers first key ≡ true → covers second key ≡ true

-- ---- lists of columns

-- a column of the list passes what all pass
contained-passes : (test : ℕ → Bool) (xs : List ℕ) (x : ℕ) → list_all test xs ≡ true → contains xs x ≡ true → test x ≡ true
contained-passes test [] x h k = cc
contained-passes test (y ∷ ys) x h k = by (x == y) refl (contained-passes test ys x (and-right (test y) (list_all test ys) h)) k
  where
    by : (b : Bool) → (x == y) ≡ b → (contains ys x ≡ true → test x ≡ true) → (b || contains ys x) ≡ true → test x ≡ true
    by true e more l = ap test (eqb-true x y e) ∙ and-left (test y) (list_all test ys) h
    by false e more l = more l

-- where all columns of a list pass, those of a key that it contains do
pub covered-passes : (test : ℕ → Bool) (keys : List (List ℕ)) (cols : List ℕ) → list_all test cols ≡ true → covers keys cols ≡ true → list_any (list_all test) keys ≡ true
covered-passes test keys cols h k =
    any-more (λ key. within key cols) (list_all test) keys (λ key e. all-more (contains cols) test key (λ x l. contained-passes test cols x h l) e) k

-- a list contains itself
within-itself : (xs : List ℕ) → within xs xs ≡ true
within-itself [] = refl
within-itself (x ∷ xs) =
    and-both (contains (x ∷ xs) x) (within xs (x ∷ xs)) (or-left (x == x) (contains xs x) (same-number x))
    (all-more (contains xs) (contains (x ∷ xs)) xs (λ y e. or-right (y == x) (contains xs y) e) (within-itself xs))

-- where all columns of one of the first keys pass, those of one of the second do
wider-passes : (test : ℕ → Bool) (first second : List (List ℕ)) → Wider first second → list_any (list_all test) first ≡ true → list_any (list_all test) second ≡ true
wider-passes test [] second h k = cc
wider-passes test (key ∷ first) second h k =
    by (list_all test key) refl (wider-passes test first second (λ x c. h x (or-right (within key x) (covers first x) c))) k
  where
    by : (b : Bool) → list_all test key ≡ b → (list_any (list_all test) first ≡ true → list_any (list_all test) second ≡ true)
        → (b || list_any (list_all test) first) ≡ true → list_any (list_all test) second ≡ true
    by true e more l = covered-passes test second key e (h key (or-left (within key key) (covers first key) (within-itself key)))
    by false e more l = more l

-- ---- what is shown

-- copies of a key
has-wider : (k : Copying) (first second : List (List ℕ)) (cols : List ℕ) → Wider first second → has_key k first cols ≡ true → has_key k second cols ≡ true
has-wider k first second cols h e = wider-passes (has_copy k cols) first second h e

-- of one input alone
pub alone-shown : (k : Copying) (keys : List (List ℕ)) (cols : List ℕ) → show (keyed_by ((k, keys) ∷ []) ∷ []) cols ≡ has_key k keys cols
alone-shown k keys cols = or-false (has_key k keys cols && true) ∙ and-true (has_key k keys cols)

-- it stays shown over more keys
alone-wider : (k : Copying) (first second : List (List ℕ)) (cols : List ℕ) → Wider first second
    → show (keyed_by ((k, first) ∷ []) ∷ []) cols ≡ true → show (keyed_by ((k, second) ∷ []) ∷ []) cols ≡ true
alone-wider k first second cols h e = alone-shown k second cols ∙ has-wider k first second cols h (sym (alone-shown k first cols) ∙ e)

-- under an operator over one input
after-wider : (after : KeysAfter) (k : Copying) (first second : List (List ℕ)) (cols : List ℕ) → Wider first second
    → show (keyed_after after k first) cols ≡ true → show (keyed_after after k second) cols ≡ true
after-wider keys_kept k first second cols h e = alone-wider k first second cols h e
after-wider (key_of_first n) k first second cols h e = e
after-wider no_key k first second cols h e = e

-- two tests together, and one of two, pass where what passed before still does
and-more : (a b c d : Bool) → (a ≡ true → c ≡ true) → (b ≡ true → d ≡ true) → (a && b) ≡ true → (c && d) ≡ true
and-more a b c d f g h = and-both c d (f (and-left a b h)) (g (and-right a b h))

or-more : (a b c d : Bool) → (a ≡ true → c ≡ true) → (b ≡ true → d ≡ true) → (a || b) ≡ true → (c || d) ≡ true
or-more true b c d f g h = or-left c d (f refl)
or-more false b c d f g h = or-right c d (g h)

-- under a join: a key of both inputs together contains one of each, so it is shown still where more keys let a key of one input stand alone
join-wider : (on : List (ℕ × ℕ)) (w : ℕ) (lefts rights lefts' rights' : List (List ℕ)) (cols : List ℕ) → Wider lefts lefts' → Wider rights rights'
    → show (keyed_held (covers rights (map (λ p. p.1) on)) (covers lefts (map (λ p. p.0) on)) (whole_rows, lefts) (right_of w, rights)) cols ≡ true
    → show (keyed_held (covers rights' (map (λ p. p.1) on)) (covers lefts' (map (λ p. p.0) on)) (whole_rows, lefts') (right_of w, rights')) cols ≡ true
join-wider on w lefts rights lefts' rights' cols f g e =
    let left : covers lefts cols ≡ true → covers lefts' cols ≡ true = f cols in
    let right : covers (map (shifted w) rights) cols ≡ true → covers (map (shifted w) rights') cols ≡ true =
    λ c. covers-behind w rights' cols ∙ has-wider (right_of w) rights rights' cols g (sym (covers-behind w rights cols) ∙ c) in
    sym (join-keys on w lefts' rights' cols)
    ∙ or-more _ _ _ _ (or-more _ _ _ _ (and-more _ _ _ _ left right) (and-more _ _ _ _ left (g (map (λ p. p.1) on)))) (and-more _ _ _ _ right (f (map (λ p. p.0) on)))
    (join-keys on w lefts rights cols ∙ e)

-- at each node
pub from-wider : (catalog : ℕ → Relation) (p : Plan) (lefts rights lefts' rights' : List (List ℕ)) (cols : List ℕ) → Wider lefts lefts' → Wider rights rights'
    → show (keyed_from catalog p lefts rights) cols ≡ true → show (keyed_from catalog p lefts' rights') cols ≡ true
from-wider catalog (scan n c r m z) lefts rights lefts' rights' cols f g e = e
from-wider catalog (unary n c op p) lefts rights lefts' rights' cols f g e = after-wider (described op).keys (described op).copying lefts lefts' cols f e
from-wider catalog (binary n c union p q) lefts rights lefts' rights' cols f g e = e
from-wider catalog (binary n c (join m on) p q) lefts rights lefts' rights' cols f g e = join-wider on (width catalog p) lefts rights lefts' rights' cols f g e
from-wider catalog (binary n c (semi_join matched on conditions) p q) lefts rights lefts' rights' cols f g e = alone-wider whole_rows lefts lefts' cols f e
from-wider catalog (exchange n c k m p) lefts rights lefts' rights' cols f g e = alone-wider whole_rows lefts lefts' cols f e
