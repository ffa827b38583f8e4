-- What gives a part: a part that gives another is that one, or is routed where the other is any. A node shows no less where the parts of its inputs tell more.
use Rattle.std.proofs.Common.{ℕ, ◌≡◌, ◌==◌, Bool, true, false, ◌&&◌, ◌||◌, ◌⊎◌, inl, inr, ⊎_elim, List, [], ◌∷◌, ◌++◌, Option, Some, None, refl, sym, ap, ap₂, ◌∙◌, arith}
use Rattle.std.specs.List.{list_all, list_any}
use Rattle.std.proofs.lemmas.Bool.{eqb-true}
use Rattle.std.proofs.lemmas.Bool.Decides.{nat_tests}
use Rattle.std.proofs.lemmas.List.Folds.{list_any-append}
use Rattle.vx_rows_values.proofs.Booleans.{and-left, and-right, and-both}
use Rattle.vx_catalog_relations.specs.Relation.{Relation}
use Rattle.vx_plan_nodes.specs.Plan.{Route, by_hash, by_range, Part, one, any, all, routed, union, join, semi_join, Plan, scan, unary, binary, exchange}
use Rattle.vx_plan_nodes.specs.Types.{width}
use Rattle.vx_plan_nodes.specs.Describe.{Copying, whole_rows, right_of, left_of, described}
use Rattle.vx_check_rules.specs.Rules.{numbers_eq, route_eq, part_gives, if_some, routed_alike}
use Rattle.vx_check_rules.specs.Behaviour.{sources, Way, way, if_so, bare, meet, each_has, gives}
use Rattle.vx_check_rules.proofs.Bools.{or-left, or-right}
use Rattle.vx_check_options.specs.Options.{is_routed, gives_part}

-- ---- the same part

pub same : (x : ℕ) → (x == x) ≡ true
same x = grind (arith, nat_tests)

numbers-self : (xs : List ℕ) → numbers_eq xs xs ≡ true
numbers-self [] = refl
numbers-self (x ∷ xs) = and-both (x == x) (numbers_eq xs xs) (same x) (numbers-self xs)

pub route-self : (r : Route) → route_eq r r ≡ true
route-self (by_hash a) = numbers-self a
route-self (by_range j) = same j

pub gives-self : (q : Part) → part_gives q q ≡ true
gives-self one = refl
gives-self any = refl
gives-self all = refl
gives-self (routed r cols) = and-both (route_eq r r) (numbers_eq cols cols) (route-self r) (numbers-self cols)

numbers-are : (xs ys : List ℕ) → numbers_eq xs ys ≡ true → xs ≡ ys
numbers-are [] [] h = refl
numbers-are [] (y ∷ ys) h = cc
numbers-are (x ∷ xs) [] h = cc
numbers-are (x ∷ xs) (y ∷ ys) h = ap₂ (λ a b. a ∷ b) (eqb-true x y (and-left (x == y) (numbers_eq xs ys) h)) (numbers-are xs ys (and-right (x == y) (numbers_eq xs ys) h))

route-is : (r s : Route) → route_eq r s ≡ true → r ≡ s
route-is (by_hash a) (by_hash b) h = ap by_hash (numbers-are a b h)
route-is (by_hash a) (by_range j) h = cc
route-is (by_range i) (by_hash b) h = cc
route-is (by_range i) (by_range j) h = ap by_range (eqb-true i j h)

-- what gives a part is that part, or is routed where any is asked for
pub gives-is : (x y : Part) → part_gives x y ≡ true → (x ≡ y) ⊎ ((y ≡ any) × (is_routed x ≡ true))
gives-is one one h = inl refl
gives-is one any h = cc
gives-is one all h = cc
gives-is one (routed s ds) h = cc
gives-is any one h = cc
gives-is any any h = inl refl
gives-is any all h = cc
gives-is any (routed s ds) h = cc
gives-is all one h = cc
gives-is all any h = cc
gives-is all all h = inl refl
gives-is all (routed s ds) h = cc
gives-is (routed r cols) one h = cc
gives-is (routed r cols) any h = inr (refl, refl)
gives-is (routed r cols) all h = cc
gives-is (routed r cols) (routed s ds) h =
    inl (ap₂ (λ a b. routed a b) (route-is r s (and-left (route_eq r s) (numbers_eq cols ds) h)) (numbers-are cols ds (and-right (route_eq r s) (numbers_eq cols ds) h)))

routed-gives : (x z : Part) → is_routed x ≡ true → part_gives any z ≡ true → part_gives x z ≡ true
routed-gives one z h k = cc
routed-gives any z h k = cc
routed-gives all z h k = cc
routed-gives (routed r cols) one h k = cc
routed-gives (routed r cols) any h k = refl
routed-gives (routed r cols) all h k = cc
routed-gives (routed r cols) (routed s ds) h k = cc

pub gives-more : (x y z : Part) → part_gives x y ≡ true → part_gives y z ≡ true → part_gives x z ≡ true
gives-more x y z h k = ⊎_elim (λ e. rw e k) (λ w. routed-gives x z w.1 (rw w.0 at k)) (gives-is x y h)

not-routed : (y : Part) → y ≡ any → is_routed y ≡ true → ⊥
not-routed y e h = let f : is_routed any ≡ true = rw e at h in cc

routed-is : (x y : Part) → part_gives x y ≡ true → is_routed y ≡ true → x ≡ y
routed-is x y h k = ⊎_elim (λ e. e) (λ w. absurd (not-routed y w.0 k)) (gives-is x y h)

-- ---- tests over lists

pub or-cases : (a b : Bool) → (a || b) ≡ true → (a ≡ true) ⊎ (b ≡ true)
or-cases true b h = inl refl
or-cases false b h = inr h

-- what holds of an entry of which both tests hold
pub any-both : {X : Type 0} {C : Type 0} (g f : X → Bool) (xs : List X) → list_all g xs ≡ true → list_any f xs ≡ true → ((x : X) → g x ≡ true → f x ≡ true → C) → C
any-both g f [] k h then = cc
any-both g f (x ∷ xs) k h then =
    ⊎_elim (λ e. then x (and-left (g x) (list_all g xs) k) e) (λ e. any-both g f xs (and-right (g x) (list_all g xs) k) e then) (or-cases (f x) (list_any f xs) h)

-- where each entry passes a test, those that pass a second one pass a third
pub any-where : {X : Type 0} (g f h : X → Bool) (xs : List X) → list_all g xs ≡ true → ((x : X) → g x ≡ true → f x ≡ true → h x ≡ true) → list_any f xs ≡ true → list_any h xs ≡ true
any-where g f h [] k more l = l
any-where g f h (x ∷ xs) k more l =
    ⊎_elim (λ e. or-left (h x) (list_any h xs) (more x (and-left (g x) (list_all g xs) k) e))
    (λ e. or-right (h x) (list_any h xs) (any-where g f h xs (and-right (g x) (list_all g xs) k) more e))
    (or-cases (f x) (list_any f xs) l)

any-cons : {X : Type 0} (f : X → Bool) (u v : X) (us vs : List X) → (f u ≡ true → f v ≡ true) → (list_any f us ≡ true → list_any f vs ≡ true)
    → list_any f (u ∷ us) ≡ true → list_any f (v ∷ vs) ≡ true
any-cons f u v us vs a b h = ⊎_elim (λ e. or-left (f v) (list_any f vs) (a e)) (λ e. or-right (f v) (list_any f vs) (b e)) (or-cases (f u) (list_any f us) h)

any-joined : {X : Type 0} (f : X → Bool) (us vs us' vs' : List X) → (list_any f us ≡ true → list_any f us' ≡ true) → (list_any f vs ≡ true → list_any f vs' ≡ true)
    → list_any f (us ++ vs) ≡ true → list_any f (us' ++ vs') ≡ true
any-joined f us vs us' vs' a b h =
    list_any-append f us' vs'
    ∙ ⊎_elim (λ e. or-left (list_any f us') (list_any f vs') (a e)) (λ e. or-right (list_any f us') (list_any f vs') (b e))
    (or-cases (list_any f us) (list_any f vs) (sym (list_any-append f us vs) ∙ h))

any-so : {X : Type 0} (f : X → Bool) (a b : Bool) (us vs : List X) → (a ≡ true → b ≡ true) → (list_any f us ≡ true → list_any f vs ≡ true)
    → list_any f (if_so a us) ≡ true → list_any f (if_so b vs) ≡ true
any-so f true true us vs s more h = more h
any-so f true false us vs s more h = let e : false ≡ true = s refl in cc
any-so f false b us vs s more h = cc

-- ---- what is shown where inputs tell more

some-more : (o : Option (List ℕ)) (f g : List ℕ → Bool) → ((cs : List ℕ) → f cs ≡ true → g cs ≡ true) → if_some o f ≡ true → if_some o g ≡ true
some-more None f g more h = h
some-more (Some cs) f g more h = more cs h

-- a way whose inputs have what others have gives what those give
pub way-more : (k : Copying) (from more : List (Bool × Part)) → ((q : Part) → each_has from q ≡ true → each_has more q ≡ true) → (q : Part) → gives (way k from) q ≡ true → gives (way k more) q ≡ true
way-more k from more each one h = h
way-more k from more each any h = each any h
way-more k from more each all h = each all h
way-more k from more each (routed r cols) h = some-more (sources k cols) (λ cs. each_has from (routed r cs)) (λ cs. each_has more (routed r cs)) (λ cs. each (routed r cs)) h

each-one : (x y : Part) → part_gives x y ≡ true → (q : Part) → each_has ((false, y) ∷ []) q ≡ true → each_has ((false, x) ∷ []) q ≡ true
each-one x y h q k = and-both (part_gives x q) true (gives-more x y q h (and-left (part_gives y q) true k)) refl

each-two : (x y u z : Part) → part_gives x y ≡ true → part_gives u z ≡ true → (q : Part) → each_has ((false, y) ∷ (false, z) ∷ []) q ≡ true → each_has ((false, x) ∷ (false, u) ∷ []) q ≡ true
each-two x y u z h i q k =
    and-both (part_gives x q) (part_gives u q && true) (gives-more x y q h (and-left (part_gives y q) (part_gives z q && true) k))
    (each-one u z i q (and-right (part_gives y q) (part_gives z q && true) k))

way-one : (k : Copying) (x y q : Part) → part_gives x y ≡ true → gives (way k ((false, y) ∷ [])) q ≡ true → gives (way k ((false, x) ∷ [])) q ≡ true
way-one k x y q h = way-more k ((false, y) ∷ []) ((false, x) ∷ []) (each-one x y h) q

way-alone : (k : Copying) (x y q : Part) → part_gives x y ≡ true → list_any (λ w. gives w q) (way k ((false, y) ∷ []) ∷ []) ≡ true → list_any (λ w. gives w q) (way k ((false, x) ∷ []) ∷ []) ≡ true
way-alone k x y q h = any-cons (λ w. gives w q) (way k ((false, y) ∷ [])) (way k ((false, x) ∷ [])) [] [] (way-one k x y q h) (λ e. e)

meet-more : (o : Option (List ℕ)) (x y : Part) → part_gives x y ≡ true → meet o (false, y) ≡ true → meet o (false, x) ≡ true
meet-more None x y h k = refl
meet-more (Some cols) x y h k = ⊎_elim (λ e. rw e k) (λ w. let f : meet (Some cols) (false, any) ≡ true = rw w.0 at k in cc) (gives-is x y h)

pub alike-routed : (on : List (ℕ × ℕ)) (y z : Part) → routed_alike on y z ≡ true → (is_routed y ≡ true) × (is_routed z ≡ true)
alike-routed on one z h = cc
alike-routed on any z h = cc
alike-routed on all z h = cc
alike-routed on (routed r ls) one h = cc
alike-routed on (routed r ls) any h = cc
alike-routed on (routed r ls) all h = cc
alike-routed on (routed r ls) (routed s rs) h = (refl, refl)

alike-more : (on : List (ℕ × ℕ)) (x y u z : Part) → part_gives x y ≡ true → part_gives u z ≡ true → routed_alike on y z ≡ true → routed_alike on x u ≡ true
alike-more on x y u z h i k = let w = alike-routed on y z k in rw (routed-is x y h w.0, routed-is u z i w.1) k

beside-more : (x y u z : Part) → part_gives x y ≡ true → part_gives u z ≡ true
    → ((part_gives y any && part_gives z any) || (part_gives y all && part_gives z all)) ≡ true → ((part_gives x any && part_gives u any) || (part_gives x all && part_gives u all)) ≡ true
beside-more x y u z h i k =
    ⊎_elim (λ e. or-left (part_gives x any && part_gives u any) (part_gives x all && part_gives u all) (both any e)) (λ e. or-right (part_gives x any && part_gives u any) (part_gives x all && part_gives u all) (both all e))
    (or-cases (part_gives y any && part_gives z any) (part_gives y all && part_gives z all) k)
  where
    both : (q : Part) → (part_gives y q && part_gives z q) ≡ true → (part_gives x q && part_gives u q) ≡ true
    both q e = and-both (part_gives x q) (part_gives u q) (gives-more x y q h (and-left (part_gives y q) (part_gives z q) e)) (gives-more u z q i (and-right (part_gives y q) (part_gives z q) e))

-- a node shows what it shows where its inputs have parts that tell less
pub shown-more : (catalog : ℕ → Relation) (p : Plan) (q x y u z : Part) → part_gives x y ≡ true → part_gives u z ≡ true → gives_part catalog p q y z ≡ true → gives_part catalog p q x u ≡ true
shown-more catalog (scan n c r m s) q x y u z h i k = k
shown-more catalog (unary n c op p) q x y u z h i k =
    any-so (λ w. gives w q) (meet (described op).meets (false, y)) (meet (described op).meets (false, x)) (way (described op).copying ((false, y) ∷ []) ∷ []) (way (described op).copying ((false, x) ∷ []) ∷ [])
    (meet-more (described op).meets x y h) (way-alone (described op).copying x y q h) k
shown-more catalog (binary n c union p p2) q x y u z h i k =
    any-so (λ w. gives w q) ((part_gives y any && part_gives z any) || (part_gives y all && part_gives z all)) ((part_gives x any && part_gives u any) || (part_gives x all && part_gives u all))
    (way whole_rows ((false, y) ∷ (false, z) ∷ []) ∷ []) (way whole_rows ((false, x) ∷ (false, u) ∷ []) ∷ []) (beside-more x y u z h i)
    (any-cons (λ w. gives w q) (way whole_rows ((false, y) ∷ (false, z) ∷ [])) (way whole_rows ((false, x) ∷ (false, u) ∷ [])) [] []
    (way-more whole_rows ((false, y) ∷ (false, z) ∷ []) ((false, x) ∷ (false, u) ∷ []) (each-two x y u z h i) q) (λ e. e)) k
shown-more catalog (binary n c (join m on) p p2) q x y u z h i k =
    let f = λ (w : Way). gives w q in
    let w : ℕ = width catalog p in
    any-joined f (if_so (routed_alike on y z) (way whole_rows (bare y ∷ []) ∷ way (right_of w) (bare z ∷ []) ∷ []))
    (if_so (part_gives z all) (way (left_of w) ((false, y) ∷ []) ∷ []) ++ if_so (part_gives y all) (way (right_of w) ((false, z) ∷ []) ∷ []))
    (if_so (routed_alike on x u) (way whole_rows (bare x ∷ []) ∷ way (right_of w) (bare u ∷ []) ∷ []))
    (if_so (part_gives u all) (way (left_of w) ((false, x) ∷ []) ∷ []) ++ if_so (part_gives x all) (way (right_of w) ((false, u) ∷ []) ∷ []))
    (any-so f (routed_alike on y z) (routed_alike on x u) (way whole_rows (bare y ∷ []) ∷ way (right_of w) (bare z ∷ []) ∷ []) (way whole_rows (bare x ∷ []) ∷ way (right_of w) (bare u ∷ []) ∷ [])
    (alike-more on x y u z h i)
    (any-cons f (way whole_rows (bare y ∷ [])) (way whole_rows (bare x ∷ [])) (way (right_of w) (bare z ∷ []) ∷ []) (way (right_of w) (bare u ∷ []) ∷ []) (way-one whole_rows x y q h) (way-alone (right_of w) u z q i)))
    (any-joined f (if_so (part_gives z all) (way (left_of w) ((false, y) ∷ []) ∷ [])) (if_so (part_gives y all) (way (right_of w) ((false, z) ∷ []) ∷ []))
    (if_so (part_gives u all) (way (left_of w) ((false, x) ∷ []) ∷ [])) (if_so (part_gives x all) (way (right_of w) ((false, u) ∷ []) ∷ []))
    (any-so f (part_gives z all) (part_gives u all) (way (left_of w) ((false, y) ∷ []) ∷ []) (way (left_of w) ((false, x) ∷ []) ∷ []) (gives-more u z all i) (way-alone (left_of w) x y q h))
    (any-so f (part_gives y all) (part_gives x all) (way (right_of w) ((false, z) ∷ []) ∷ []) (way (right_of w) ((false, u) ∷ []) ∷ []) (gives-more x y all h) (way-alone (right_of w) u z q i)))
    k
shown-more catalog (binary n c (semi_join matched on conditions) p p2) q x y u z h i k =
    let f = λ (w : Way). gives w q in
    any-joined f (if_so (routed_alike on y z) (way whole_rows (bare y ∷ []) ∷ [])) (if_so (part_gives z all) (way whole_rows ((false, y) ∷ []) ∷ []))
    (if_so (routed_alike on x u) (way whole_rows (bare x ∷ []) ∷ [])) (if_so (part_gives u all) (way whole_rows ((false, x) ∷ []) ∷ []))
    (any-so f (routed_alike on y z) (routed_alike on x u) (way whole_rows (bare y ∷ []) ∷ []) (way whole_rows (bare x ∷ []) ∷ []) (alike-more on x y u z h i) (way-alone whole_rows x y q h))
    (any-so f (part_gives z all) (part_gives u all) (way whole_rows ((false, y) ∷ []) ∷ []) (way whole_rows ((false, x) ∷ []) ∷ []) (gives-more u z all i) (way-alone whole_rows x y q h))
    k
shown-more catalog (exchange n c kind m p) q x y u z h i k = k
