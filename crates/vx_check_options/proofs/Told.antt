-- What is shown is told: a part that a node shows is among those that it can claim, or one that tells more is.
use Rattle.std.proofs.Common.{ℕ, zero, suc, ◌≡◌, ◌+◌, ◌-◌, ◌==◌, nat_lt, nat_le, Bool, true, false, cond, ◌&&◌, ◌||◌, ◌⊎◌, ⊎_elim, List, [], ◌∷◌, ◌++◌, map, flat_map, filter, length, take, take_all, Option, Some, None, slice_get, refl, ◌∙◌, subst, arith, eqb-true}
use Rattle.std.specs.List.{list_all, list_any}
use Rattle.std.proofs.lemmas.Bool.Decides.{nat_tests}
use Rattle.std.proofs.lemmas.List.Folds.{list_any-append}
use Rattle.vx_rows_values.proofs.Booleans.{and-left, and-right, and-both}
use Rattle.vx_catalog_relations.specs.Relation.{Relation}
use Rattle.vx_catalog_relations.proofs.NameFacts.{list_any-map}
use Rattle.vx_plan_nodes.specs.Plan.{Route, Part, one, any, all, routed, Plan}
use Rattle.vx_plan_nodes.specs.Describe.{Copying, whole_rows, columns_kept, entries_kept, left_of, right_of, no_columns, source}
use Rattle.vx_check_rules.specs.Rules.{numbers_eq, route_eq, part_gives, contains, cons_both}
use Rattle.vx_check_rules.specs.Behaviour.{sources, Way, way, each_has, gives, common_part, ways_from}
use Rattle.vx_check_rules.proofs.Bools.{or-left, or-right, any-more}
use Rattle.vx_check_rules.proofs.WayFacts.{any-flat}
use Rattle.vx_check_options.specs.Options.{places_from, copies, in_front, copied_lists, are_all_lists, are_all_of, routed_by, parts_up, parts_of_way, parts_over, parts_among, same_part, with_part, with_parts, is_routed, most_telling, gives_part, part_if_given, told_parts}
use Rattle.vx_check_options.specs.Laws.{is_told, keeps_part}
use Rattle.vx_check_options.proofs.EntryCopies.{entry-found}
use Rattle.vx_check_options.proofs.Telling.{same, route-self, gives-self, gives-more, gives-is, or-cases, any-both, any-where, shown-more}
use Rattle.vx_check_options.proofs.Alike.{alike, one_or, replicates, plain, fair, fair-ways, way-common, some-is, all-telling, parts-alike}

-- ---- copies of columns

kept-copy : (n : ℕ) (cols : List ℕ) (c d : ℕ) → slice_get cols d ≡ Some c → contains (places_from n cols c) (n + d) ≡ true
kept-copy n [] c d e = cc
kept-copy n (k ∷ ks) c zero e =
    let is : k ≡ c = cc in
    let z : n ≡ n + 0 = omega arith in
    rw (is, same c) (subst (λ v. contains (n ∷ places_from (suc n) ks c) v ≡ true) z (or-left (n == n) (contains (places_from (suc n) ks c) n) (same n)))
kept-copy n (k ∷ ks) c (suc d) e =
    let s : n + suc d ≡ suc n + d = omega arith in
    rw s (by (c == k) (kept-copy (suc n) ks c d e))
  where
    by : (t : Bool) → contains (places_from (suc n) ks c) (suc n + d) ≡ true → contains (cond t (n ∷ places_from (suc n) ks c) (places_from (suc n) ks c)) (suc n + d) ≡ true
    by true h = or-right (suc n + d == n) (contains (places_from (suc n) ks c) (suc n + d)) h
    by false h = h

-- an output column of kept columns is among the copies of its source
pub kept-found : (cols : List ℕ) (c d : ℕ) → slice_get cols d ≡ Some c → contains (places_from 0 cols c) d ≡ true
kept-found cols c d e = let z : 0 + d ≡ d = omega arith in subst (λ v. contains (places_from 0 cols c) v ≡ true) z (kept-copy 0 cols c d e)

left-copy : (w c d : ℕ) (t : Bool) → nat_lt d w ≡ t → cond t (Some d) None ≡ Some c → contains (cond (nat_lt c w) (c ∷ []) []) d ≡ true
left-copy w c d true e f = let is : c ≡ d = cc in rw (is, e) (or-left (d == d) false (same d))
left-copy w c d false e f = cc

right-copy : (w c d : ℕ) (t : Bool) → nat_lt d 64 ≡ true → nat_le w d ≡ t → cond t (Some (d - w)) None ≡ Some c → contains (cond (nat_lt c 64) ((w + c) ∷ []) []) d ≡ true
right-copy w c d true l e f =
    let is : c ≡ d - w = cc in
    let few : nat_lt (d - w) 64 ≡ true = grind (arith, nat_tests, l) in
    let at : w + (d - w) ≡ d = grind (arith, nat_tests, e) in
    rw (is, few, at) (or-left (d == d) false (same d))
right-copy w c d false l e f = cc

-- an output column is among the copies of its source
copy-is : (k : Copying) (c d : ℕ) → nat_lt d 64 ≡ true → source k d ≡ Some c → contains (copies k c) d ≡ true
copy-is whole_rows c d l e = let is : c ≡ d = cc in rw is (or-left (d == d) false (same d))
copy-is (columns_kept cols) c d l e = kept-found cols c d e
copy-is (entries_kept ks) c d l e = entry-found ks c d e
copy-is (left_of w) c d l e = left-copy w c d (nat_lt d w) refl e
copy-is (right_of w) c d l e = right-copy w c d (nat_le w d) l refl e
copy-is no_columns c d l e = cc

-- columns that there may be
abbrev pub are_few : List ℕ → Bool
are_few cols = list_all (λ c. nat_lt c 64) cols

front-has : (k : Copying) (c d : ℕ) (ds : List ℕ) (lists : List (List ℕ)) → contains (copies k c) d ≡ true → list_any (λ es. numbers_eq es ds) lists ≡ true
    → list_any (λ es. numbers_eq es (d ∷ ds)) (in_front k c lists) ≡ true
front-has k c d ds lists h l =
    any-flat (λ es. numbers_eq es (d ∷ ds)) (λ x. map (λ es. x ∷ es) lists) (copies k c)
    ∙ any-more (λ x. d == x) (λ x. list_any (λ es. numbers_eq es (d ∷ ds)) (map (λ es. x ∷ es) lists)) (copies k c)
    (λ x e.
    let is : d ≡ x = eqb-true d x e in
    list_any-map (λ es. numbers_eq es (d ∷ ds)) (λ es. x ∷ es) lists
    ∙ any-more (λ es. numbers_eq es ds) (λ es. numbers_eq (x ∷ es) (d ∷ ds)) lists (λ es i. and-both (x == d) (numbers_eq es ds) (rw is (same x)) i) l) h

-- the list of columns is one of those that are copies of its sources
lists-have : (k : Copying) (ds cs : List ℕ) → are_few ds ≡ true → sources k ds ≡ Some cs → are_all_lists k cs ≡ true → list_any (λ es. numbers_eq es ds) (copied_lists k cs) ≡ true
lists-have k [] cs f e a = let is : cs ≡ [] = cc in rw is refl
lists-have k (d ∷ ds) cs f e a =
    by (source k d) (sources k ds) refl (λ es i b. lists-have k ds es (and-right (nat_lt d 64) (are_few ds) f) i b) e
  where
    by : (o : Option ℕ) (os : Option (List ℕ)) → source k d ≡ o → ((es : List ℕ) → os ≡ Some es → are_all_lists k es ≡ true → list_any (λ x. numbers_eq x ds) (copied_lists k es) ≡ true)
        → cons_both o os ≡ Some cs → list_any (λ x. numbers_eq x (d ∷ ds)) (copied_lists k cs) ≡ true
    by None os s more i = cc
    by (Some c) None s more i = cc
    by (Some c) (Some es) s more i =
        let is : cs ≡ c ∷ es = cc in
        let b : are_all_lists k (c ∷ es) ≡ true = rw is at a in
        let few : nat_le (length (in_front k c (copied_lists k es))) 64 ≡ true = and-right (are_all_lists k es) (nat_le (length (in_front k c (copied_lists k es))) 64) b in
        let whole : take 64 (in_front k c (copied_lists k es)) ≡ in_front k c (copied_lists k es) = take_all 64 (in_front k c (copied_lists k es)) (grind (arith, nat_tests, few)) in
        rw (is, whole)
        (front-has k c d ds (copied_lists k es) (copy-is k c d (and-left (nat_lt d 64) (are_few ds) f) s)
        (more es refl (and-left (are_all_lists k es) (nat_le (length (in_front k c (copied_lists k es))) 64) b)))

-- ---- the parts of a way

-- a route by columns that there may be
abbrev pub names_few : Part → Bool
names_few (routed r cols) = are_few cols
names_few q = true

routes-any : (r : Route) (lists : List (List ℕ)) → is_told (routed_by r lists) any ≡ true
routes-any r [] = refl
routes-any r (cols ∷ lists) = refl

up-any : (k : Copying) (c : Part) → part_gives c any ≡ true → is_told (parts_up k c) any ≡ true
up-any k one h = cc
up-any k any h = refl
up-any k all h = cc
up-any k (routed r cols) h = routes-any r (copied_lists k cols)

routes-told : (r : Route) (lists : List (List ℕ)) (ds : List ℕ) → list_any (λ es. numbers_eq es ds) lists ≡ true → is_told (routed_by r lists) (routed r ds) ≡ true
routes-told r [] ds h = cc
routes-told r (cols ∷ lists) ds h =
    list_any-map (λ x. part_gives x (routed r ds)) (routed r) (cols ∷ lists)
    ∙ any-more (λ es. numbers_eq es ds) (λ es. part_gives (routed r es) (routed r ds)) (cols ∷ lists) (λ es e. and-both (route_eq r r) (numbers_eq es ds) (route-self r) e) h

not-any : (s : Route) (cs : List ℕ) → routed s cs ≡ any → ⊥
not-any s cs e = cc

up-told : (k : Copying) (c q : Part) → gives (way k ((false, c) ∷ [])) q ≡ true → are_all_of k c ≡ true → names_few q ≡ true → is_told (parts_up k c) q ≡ true
up-told k c one g a f = cc
up-told k c any g a f = up-any k c (and-left (part_gives c any) true g)
up-told k c all g a f = by c (and-left (part_gives c all) true g)
  where
    by : (x : Part) → part_gives x all ≡ true → is_told (parts_up k x) all ≡ true
    by one h = cc
    by any h = cc
    by all h = refl
    by (routed r cols) h = cc
up-told k c (routed r ds) g a f =
    let w = some-is (sources k ds) (λ cs. each_has ((false, c) ∷ []) (routed r cs)) g in
    let is : c ≡ routed r w.0 = routed-same c r w.0 (and-left (part_gives c (routed r w.0)) true w.2) in
    let b : are_all_lists k w.0 ≡ true = rw is at a in
    rw is (routes-told r (copied_lists k w.0) ds (lists-have k ds w.0 f w.1 b))
  where
    routed-same : (x : Part) (s : Route) (cs : List ℕ) → part_gives x (routed s cs) ≡ true → x ≡ routed s cs
    routed-same x s cs h = ⊎_elim (λ e. e) (λ v. absurd (not-any s cs v.0)) (gives-is x (routed s cs) h)

-- ---- among the parts over all of those of the inputs

-- the copies of the columns of a way's part are all there
abbrev pub is_whole : Way → Bool
is_whole w = are_all_of w.copying (common_part w.from)

way-told : (q : Part) → names_few q ≡ true → (w : Way) → (plain w && is_whole w) ≡ true → gives w q ≡ true → is_told (parts_of_way w) q ≡ true
way-told q f w h g = up-told w.copying (common_part w.from) q (way-common w.copying w.from q (and-left (plain w) (is_whole w) h) g) (and-right (plain w) (is_whole w) h) f

way-any : (w : Way) → (plain w && true) ≡ true → gives w any ≡ true → is_told (parts_of_way w) any ≡ true
way-any w h g =
    let e = way-common w.copying w.from any (and-left (plain w) true h) g in
    up-any w.copying (common_part w.from) (and-left (part_gives (common_part w.from) any) true e)

-- where each of the ways passes a test
abbrev pub each_way : (ℕ → Relation) → Plan → (Way → Bool) → (lefts rights : List Part) → Bool
each_way catalog p ok lefts rights = list_all (λ x. list_all (λ y. list_all ok (ways_from catalog p (false, x) (false, y))) rights) lefts

both-all : {X : Type 0} (f g : X → Bool) (xs : List X) → list_all f xs ≡ true → list_all g xs ≡ true → list_all (λ x. f x && g x) xs ≡ true
both-all f g [] h k = refl
both-all f g (x ∷ xs) h k =
    and-both (f x && g x) (list_all (λ y. f y && g y) xs) (and-both (f x) (g x) (and-left (f x) (list_all f xs) h) (and-left (g x) (list_all g xs) k))
    (both-all f g xs (and-right (f x) (list_all f xs) h) (and-right (g x) (list_all g xs) k))

all-plain : (b : Bool) (ws : List Way) → list_all (fair b) ws ≡ true → list_all plain ws ≡ true
all-plain b [] h = refl
all-plain b (w ∷ ws) h =
    and-both (plain w) (list_all plain ws) (and-left (plain w) (one_or b (common_part w.from)) (and-left (fair b w) (list_all (fair b) ws) h)) (all-plain b ws (and-right (fair b w) (list_all (fair b) ws) h))

over-told : (catalog : ℕ → Relation) (p : Plan) (a b : Bool) (q x y : Part) (ok : Way → Bool) → ((w : Way) → (plain w && ok w) ≡ true → gives w q ≡ true → is_told (parts_of_way w) q ≡ true)
    → one_or a x ≡ true → one_or b y ≡ true → list_all ok (ways_from catalog p (false, x) (false, y)) ≡ true → gives_part catalog p q x y ≡ true
    → is_told (parts_over catalog p x y) q ≡ true
over-told catalog p a b q x y ok sure h k each g =
    let ws : List Way = ways_from catalog p (false, x) (false, y) in
    any-flat (λ z. part_gives z q) parts_of_way ws
    ∙ any-where (λ w. plain w && ok w) (λ w. gives w q) (λ w. is_told (parts_of_way w) q) ws
    (both-all plain ok ws (all-plain (replicates p a b) ws (fair-ways catalog p a b x y h k)) each) sure g

-- a part that is shown where each input has one of these
abbrev pub shown_among : (ℕ → Relation) → Plan → Part → (lefts rights : List Part) → Bool
shown_among catalog p q lefts rights = list_any (λ x. list_any (gives_part catalog p q x) rights) lefts

among-told : (catalog : ℕ → Relation) (p : Plan) (a b : Bool) (q : Part) (lefts rights : List Part) (ok : Way → Bool)
    → ((w : Way) → (plain w && ok w) ≡ true → gives w q ≡ true → is_told (parts_of_way w) q ≡ true)
    → list_all (one_or a) lefts ≡ true → list_all (one_or b) rights ≡ true → each_way catalog p ok lefts rights ≡ true → shown_among catalog p q lefts rights ≡ true
    → is_told (parts_among catalog p lefts rights) q ≡ true
among-told catalog p a b q lefts rights ok sure h k each g =
    let test = λ (z : Part). part_gives z q in
    let each_right = λ (x : Part). list_all (λ y. list_all ok (ways_from catalog p (false, x) (false, y))) rights in
    any-flat test (λ x. flat_map (parts_over catalog p x) rights) lefts
    ∙ any-where (λ x. one_or a x && each_right x) (λ x. list_any (gives_part catalog p q x) rights) (λ x. is_told (flat_map (parts_over catalog p x) rights) q) lefts
    (both-all (one_or a) each_right lefts h each)
    (λ x i l.
    let each_over = λ (y : Part). list_all ok (ways_from catalog p (false, x) (false, y)) in
    any-flat test (parts_over catalog p x) rights
    ∙ any-where (λ y. one_or b y && each_over y) (gives_part catalog p q x) (λ y. is_told (parts_over catalog p x y) q) rights
    (both-all (one_or b) each_over rights k (and-right (one_or a x) (each_right x) i))
    (λ y j. over-told catalog p a b q x y ok sure (and-left (one_or a x) (each_right x) i) (and-left (one_or b y) (each_over y) j) (and-right (one_or b y) (each_over y) j)) l) g

-- ---- each part once, and those that tell the most

pub told-by : (parts : List Part) (x q : Part) → is_told parts x ≡ true → part_gives x q ≡ true → is_told parts q ≡ true
told-by parts x q h k = any-more (λ y. part_gives y x) (λ y. part_gives y q) parts (λ y e. gives-more y x q e k) h

with-told : (parts qs : List Part) (t : Part) → (is_told parts t || is_told qs t) ≡ true → is_told (with_parts parts qs) t ≡ true
with-told parts [] t h = none (is_told parts t) h
  where
    none : (b : Bool) → (b || false) ≡ true → b ≡ true
    none true e = refl
    none false e = e
with-told parts (q ∷ qs) t h = with-told (with_part parts q) qs t (by (list_any (same_part q) parts) refl)
  where
    here : (u : Bool) → list_any (same_part q) parts ≡ u → part_gives q t ≡ true → is_told (cond u parts (parts ++ q ∷ [])) t ≡ true
    here true e i =
        told-by parts q t (any-more (same_part q) (λ y. part_gives y q) parts (λ y j. and-right (part_gives q y) (part_gives y q) j) e) i
    here false e i = list_any-append (λ x. part_gives x t) parts (q ∷ []) ∙ or-right (is_told parts t) (part_gives q t || false) (or-left (part_gives q t) false i)

    before : (u : Bool) → is_told parts t ≡ true → is_told (cond u parts (parts ++ q ∷ [])) t ≡ true
    before true i = i
    before false i = list_any-append (λ x. part_gives x t) parts (q ∷ []) ∙ or-left (is_told parts t) (part_gives q t || false) i

    by : (u : Bool) → list_any (same_part q) parts ≡ u → (is_told (cond u parts (parts ++ q ∷ [])) t || is_told qs t) ≡ true
    by u e =
        ⊎_elim (λ i. or-left (is_told (cond u parts (parts ++ q ∷ [])) t) (is_told qs t) (before u i))
        (λ r.
        ⊎_elim (λ i. or-left (is_told (cond u parts (parts ++ q ∷ [])) t) (is_told qs t) (here u e i)) (λ i. or-right (is_told (cond u parts (parts ++ q ∷ [])) t) (is_told qs t) i)
        (or-cases (part_gives q t) (is_told qs t) r))
        (or-cases (is_told parts t) (part_gives q t || is_told qs t) h)

any-kept : {X : Type 0} (g f : X → Bool) (xs : List X) → list_any (λ x. g x && f x) xs ≡ true → list_any f (filter g xs) ≡ true
any-kept g f [] h = cc
any-kept g f (x ∷ xs) h = by (g x) (any-kept g f xs) h
  where
    by : (t : Bool) → (list_any (λ y. g y && f y) xs ≡ true → list_any f (filter g xs) ≡ true) → ((t && f x) || list_any (λ y. g y && f y) xs) ≡ true → list_any f (cond t (x ∷ filter g xs) (filter g xs)) ≡ true
    by true more e = ⊎_elim (λ i. or-left (f x) (list_any f (filter g xs)) i) (λ i. or-right (f x) (list_any f (filter g xs)) (more i)) (or-cases (f x) (list_any (λ y. g y && f y) xs) e)
    by false more e = more e

routed-any : (x : Part) → is_routed x ≡ true → (is_routed x && part_gives x any) ≡ true
routed-any one h = cc
routed-any any h = cc
routed-any all h = cc
routed-any (routed r cols) h = refl

routed-one : (x : Part) (r : Route) (cols : List ℕ) → part_gives x (routed r cols) ≡ true → (is_routed x && part_gives x (routed r cols)) ≡ true
routed-one one r cols h = cc
routed-one any r cols h = cc
routed-one all r cols h = cc
routed-one (routed s ds) r cols h = h

-- no route where there is all
all-alone : (b : Bool) (x : Part) → alike b x ≡ true → part_gives x all ≡ true → b ≡ true
all-alone b one h k = cc
all-alone b any h k = cc
all-alone b all h k = h
all-alone b (routed r cols) h k = cc

alone-routed : (x : Part) → alike true x ≡ true → is_routed x ≡ true → ⊥
alone-routed one h k = cc
alone-routed any h k = cc
alone-routed all h k = cc
alone-routed (routed r cols) h k = cc

telling-told : (b : Bool) (parts : List Part) (q : Part) → list_all (alike b) parts ≡ true → is_told parts q ≡ true → is_told (most_telling parts) q ≡ true
telling-told b parts q h l = by (list_any is_routed parts) refl q l
  where
    no-route : list_any is_routed parts ≡ true → is_told parts all ≡ true → ⊥
    no-route e i =
        let t : b ≡ true = any-both (alike b) (λ x. part_gives x all) parts h i (all-alone b) in
        any-both (alike true) is_routed parts (rw t at h) e alone-routed

    by : (u : Bool) → list_any is_routed parts ≡ u → (t : Part) → is_told parts t ≡ true → is_told (cond u (filter is_routed parts) parts) t ≡ true
    by true e one i = any-both (alike b) (λ x. part_gives x one) parts h i none
      where
        none : (x : Part) → alike b x ≡ true → part_gives x one ≡ true → is_told (filter is_routed parts) one ≡ true
        none one j k = cc
        none any j k = cc
        none all j k = cc
        none (routed r cols) j k = cc
    by true e any i = any-kept is_routed (λ x. part_gives x any) parts (any-more is_routed (λ x. is_routed x && part_gives x any) parts routed-any e)
    by true e all i = absurd (no-route e i)
    by true e (routed r cols) i =
        any-kept is_routed (λ x. part_gives x (routed r cols)) parts (any-more (λ x. part_gives x (routed r cols)) (λ x. is_routed x && part_gives x (routed r cols)) parts (λ x. routed-one x r cols) i)
    by false e t i = i

-- any is told by the first part, where it is told
first-any : (b : Bool) (parts : List Part) → list_all (alike b) parts ≡ true → is_told parts any ≡ true → is_told (take 64 parts) any ≡ true
first-any b [] h l = cc
first-any true (x ∷ parts) h l = any-both (alike true) (λ y. part_gives y any) (x ∷ parts) h l none
  where
    none : (y : Part) → alike true y ≡ true → part_gives y any ≡ true → is_told (take 64 (x ∷ parts)) any ≡ true
    none one i k = cc
    none any i k = cc
    none all i k = cc
    none (routed r cols) i k = cc
first-any false (x ∷ parts) h l = or-left (part_gives x any) (is_told (take 63 parts) any) (by x (and-left (alike false x) (list_all (alike false) parts) h))
  where
    by : (y : Part) → alike false y ≡ true → part_gives y any ≡ true
    by one i = cc
    by any i = refl
    by all i = cc
    by (routed r cols) i = refl

-- ---- at a node

none-one : (ws : List Way) → list_any (λ w. gives w one) ws ≡ true → ⊥
none-one [] h = cc
none-one (w ∷ ws) h = none-one ws h

not-one : (catalog : ℕ → Relation) (p : Plan) (lefts rights : List Part) → shown_among catalog p one lefts rights ≡ true → ⊥
not-one catalog p lefts rights h =
    any-both (λ x. true) (λ x. list_any (gives_part catalog p one x) rights) lefts (all-true lefts) h
    (λ x i l. any-both (λ y. true) (gives_part catalog p one x) rights (all-true rights) l (λ y j g. none-one (ways_from catalog p (false, x) (false, y)) g))
  where
    all-true : (xs : List Part) → list_all (λ x. true) xs ≡ true
    all-true [] = refl
    all-true (x ∷ xs) = all-true xs

claimed-told : (catalog : ℕ → Relation) (p : Plan) (lefts rights : List Part) (c d : Part) → d ≡ c → shown_among catalog p d lefts rights ≡ true
    → is_told (take 64 (part_if_given catalog p c lefts rights)) d ≡ true
claimed-told catalog p lefts rights c d e g = rw e (by (shown_among catalog p c lefts rights) (rw e at g))
  where
    by : (t : Bool) → t ≡ true → is_told (take 64 (cond t (c ∷ []) [])) c ≡ true
    by true h = or-left (part_gives c c) false (gives-self c)
    by false h = cc

-- the bounds cut nothing off at a node that claims this part
abbrev pub Whole : (ℕ → Relation) → Plan → Part → (lefts rights : List Part) → Type 0
Whole catalog p c lefts rights = (nat_le (length (told_parts catalog p c lefts rights)) 64 ≡ true) × (each_way catalog p is_whole lefts rights ≡ true)

each-true : (catalog : ℕ → Relation) (p : Plan) (lefts rights : List Part) → each_way catalog p (λ w. true) lefts rights ≡ true
each-true catalog p lefts rights = always (λ x. list_all (λ y. list_all (λ w. true) (ways_from catalog p (false, x) (false, y))) rights) lefts
    (λ x. always (λ y. list_all (λ w. true) (ways_from catalog p (false, x) (false, y))) rights (λ y. ways (ways_from catalog p (false, x) (false, y))))
  where
    always : (f : Part → Bool) (xs : List Part) → ((x : Part) → f x ≡ true) → list_all f xs ≡ true
    always f [] h = refl
    always f (x ∷ xs) h = and-both (f x) (list_all f xs) (h x) (always f xs h)

    ways : (ws : List Way) → list_all (λ w. true) ws ≡ true
    ways [] = refl
    ways (w ∷ ws) = ways ws

-- what is shown is among what tells the most
most-told : (catalog : ℕ → Relation) (p : Plan) (a b : Bool) (q : Part) (lefts rights : List Part) (ok : Way → Bool)
    → ((w : Way) → (plain w && ok w) ≡ true → gives w q ≡ true → is_told (parts_of_way w) q ≡ true)
    → list_all (one_or a) lefts ≡ true → list_all (one_or b) rights ≡ true → each_way catalog p ok lefts rights ≡ true → shown_among catalog p q lefts rights ≡ true
    → is_told (most_telling (with_parts [] (parts_among catalog p lefts rights))) q ≡ true
most-told catalog p a b q lefts rights ok sure h k each g =
    telling-told (replicates p a b) (with_parts [] (parts_among catalog p lefts rights)) q (parts-alike catalog p a b lefts rights h k)
    (with-told [] (parts_among catalog p lefts rights) q (among-told catalog p a b q lefts rights ok sure h k each g))

all-of-it : (parts : List Part) (q : Part) → nat_le (length parts) 64 ≡ true → is_told parts q ≡ true → is_told (take 64 parts) q ≡ true
all-of-it parts q l h = let whole : take 64 parts ≡ parts = take_all 64 parts (grind (arith, nat_tests, l)) in rw whole h

-- a part that is shown, and keeps the one that is claimed already, is among those that the node can claim
pub node-told : (catalog : ℕ → Relation) (p : Plan) (a b : Bool) (lefts rights : List Part) (c d : Part) → keeps_part c d ≡ true → names_few d ≡ true
    → list_all (one_or a) lefts ≡ true → list_all (one_or b) rights ≡ true → Whole catalog p c lefts rights ⊎ (d ≡ c) → shown_among catalog p d lefts rights ≡ true
    → is_told (take 64 (told_parts catalog p c lefts rights)) d ≡ true
node-told catalog p a b lefts rights one d keeps few h k whole g =
    ⊎_elim (λ w. all-of-it (told_parts catalog p one lefts rights) d w.0 (most-told catalog p a b d lefts rights is_whole (way-told d few) h k w.1 g))
    (λ e. absurd (not-one catalog p lefts rights (rw e at g))) whole
node-told catalog p a b lefts rights any d keeps few h k whole g =
    ⊎_elim (λ w. all-of-it (told_parts catalog p any lefts rights) d w.0 (most-told catalog p a b d lefts rights is_whole (way-told d few) h k w.1 g))
    (λ e.
    rw e
    (first-any (replicates p a b) (told_parts catalog p any lefts rights)
    (all-telling (alike (replicates p a b)) (with_parts [] (parts_among catalog p lefts rights)) (parts-alike catalog p a b lefts rights h k))
    (most-told catalog p a b any lefts rights (λ w. true) way-any h k (each-true catalog p lefts rights) (rw e at g)))) whole
node-told catalog p a b lefts rights all one keeps few h k whole g = absurd (not-one catalog p lefts rights g)
node-told catalog p a b lefts rights all any keeps few h k whole g = cc
node-told catalog p a b lefts rights all all keeps few h k whole g = claimed-told catalog p lefts rights all all refl g
node-told catalog p a b lefts rights all (routed s ds) keeps few h k whole g = cc
node-told catalog p a b lefts rights (routed r cols) one keeps few h k whole g = absurd (not-one catalog p lefts rights g)
node-told catalog p a b lefts rights (routed r cols) any keeps few h k whole g = cc
node-told catalog p a b lefts rights (routed r cols) all keeps few h k whole g = cc
node-told catalog p a b lefts rights (routed r cols) (routed s ds) keeps few h k whole g =
    claimed-told catalog p lefts rights (routed r cols) (routed s ds)
    (⊎_elim (λ e. e) (λ v. absurd (not-any r cols v.0)) (gives-is (routed s ds) (routed r cols) keeps)) g

-- what a node shows with the parts that its inputs claim it shows with some of those that they can claim
pub shown-among : (catalog : ℕ → Relation) (p : Plan) (q y z : Part) (lefts rights : List Part) → is_told lefts y ≡ true → is_told rights z ≡ true → gives_part catalog p q y z ≡ true
    → shown_among catalog p q lefts rights ≡ true
shown-among catalog p q y z lefts rights h k g =
    any-more (λ x. part_gives x y) (λ x. list_any (gives_part catalog p q x) rights) lefts
    (λ x e. any-more (λ u. part_gives u z) (gives_part catalog p q x) rights (λ u f. shown-more catalog p q x y u z e f g) k) h
