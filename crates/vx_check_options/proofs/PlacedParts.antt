-- Parts among the options of a node, and the parts of its inputs with which it shows them.
use Rattle.std.proofs.Common.{◌≡◌, ℕ, zero, suc, ◌==◌, Bool, true, false, cond, not, ◌&&◌, ◌||◌, List, [], ◌∷◌, ◌++◌, map, take, refl, sym, ap, ◌∙◌, Option, Some, None, option_map, unwrap_or}
use Rattle.std.specs.List.{list_any, list_all, flat_map, filter, find}
use Rattle.std.proofs.lemmas.Bool.{eqb-true}
use Rattle.std.proofs.lemmas.List.Folds.{list_any-append, list_all-append}
use Rattle.vx_rows_values.specs.declared.order.OrderEntry.{OrderEntry}
use Rattle.vx_rows_values.specs.Lists.{is_some_list}
use Rattle.vx_rows_values.proofs.Booleans.{and-left, and-right, and-both}
use Rattle.vx_catalog_relations.specs.Relation.{Relation}
use Rattle.vx_catalog_relations.proofs.NameFacts.{list_any-map}
use Rattle.vx_plan_nodes.specs.Plan.{Size, one_worker, group_of, Route, by_hash, by_range, Part, one, any, all, routed, union, join, semi_join, ExchangeKind, route_to, round, broadcast, gather, concat, Plan, scan, unary, binary, exchange, claim, size, is_one, size_eq, target}
use Rattle.vx_plan_nodes.specs.Parts.{kind_part}
use Rattle.vx_plan_nodes.specs.Types.{width}
use Rattle.vx_plan_nodes.specs.Describe.{Copying, whole_rows, left_of, right_of, described}
use Rattle.vx_check_rules.specs.Rules.{numbers_eq, route_eq, part_gives, cons_both, if_some, routed_alike, rises_by, sizes_match}
use Rattle.vx_check_rules.specs.Refusal.{or_else}
use Rattle.vx_check_rules.specs.Behaviour.{sources, Way, way, if_so, bare, meet, input_has, each_has, gives, common_part, ways_from}
use Rattle.vx_check_rules.proofs.Bools.{or-false, or-left, or-right, all-more, any-more}
use Rattle.vx_check_rules.proofs.ColumnFacts.{list_any-ext}
use Rattle.vx_check_options.specs.Options.{copies, in_front, copied_lists, routed_by, parts_up, parts_of_way, parts_over, parts_among, same_part, with_part, with_parts, is_routed, most_telling, gives_part, part_if_given, told_parts, parts_above, no_input, parts_at}
use Rattle.vx_check_options.specs.Placed.{first_part, first_two, is_given, parts_below, part_sent}
use Rattle.vx_check_options.specs.Laws.{is_option}
use Rattle.vx_check_options.proofs.PlacedOrders.{same-number, any-flat, any-number, copies-source}

-- ---- tests of lists

or-more : (a b c : Bool) → (b ≡ true → c ≡ true) → (a || b) ≡ true → (a || c) ≡ true
or-more true b c f h = refl
or-more false b c f h = f h

-- one that passes where each passes another test
pub any-where : {X : Type 0} (good p q : X → Bool) (xs : List X) → list_all good xs ≡ true → ((x : X) → good x ≡ true → p x ≡ true → q x ≡ true) → list_any p xs ≡ true → list_any q xs ≡ true
any-where good p q [] g f h = h
any-where good p q (x ∷ xs) g f h = by (p x) refl (any-where good p q xs (and-right (good x) (list_all good xs) g) f) h
  where
    by : (b : Bool) → p x ≡ b → (list_any p xs ≡ true → list_any q xs ≡ true) → (b || list_any p xs) ≡ true → (q x || list_any q xs) ≡ true
    by true e more l = or-left (q x) (list_any q xs) (f x (and-left (good x) (list_all good xs) g) e)
    by false e more l = or-right (q x) (list_any q xs) (more l)

-- none passes what is never passed
pub none-where : {X : Type 0} (good p : X → Bool) (xs : List X) → list_all good xs ≡ true → ((x : X) → good x ≡ true → p x ≡ true → ⊥) → list_any p xs ≡ true → ⊥
none-where good p [] g f h = cc
none-where good p (x ∷ xs) g f h = by (p x) refl (none-where good p xs (and-right (good x) (list_all good xs) g) f) h
  where
    by : (b : Bool) → p x ≡ b → (list_any p xs ≡ true → ⊥) → (b || list_any p xs) ≡ true → ⊥
    by true e more l = f x (and-left (good x) (list_all good xs) g) e
    by false e more l = more l

pub not-so : (b : Bool) → (b ≡ true → ⊥) → b ≡ false
not-so true f = absurd (f refl)
not-so false f = refl

some-any : {X : Type 0} (xs : List X) → is_some_list xs ≡ list_any (λ x. true) xs
some-any [] = refl
some-any (x ∷ xs) = refl

pub any-take : {X : Type 0} (test : X → Bool) (n : ℕ) (xs : List X) → list_any test (take n xs) ≡ true → list_any test xs ≡ true
any-take test zero xs h = cc
any-take test (suc n) [] h = cc
any-take test (suc n) (x ∷ xs) h = or-more (test x) (list_any test (take n xs)) (list_any test xs) (any-take test n xs) h

pub take-some : {X : Type 0} (n : ℕ) (xs : List X) → is_some_list xs ≡ true → is_some_list (take (suc n) xs) ≡ true
take-some n [] h = cc
take-some n (x ∷ xs) h = refl

any-filter : {X : Type 0} (test keep : X → Bool) (xs : List X) → list_any test (filter keep xs) ≡ true → list_any test xs ≡ true
any-filter test keep [] h = cc
any-filter test keep (x ∷ xs) h = by (keep x) (any-filter test keep xs) h
  where
    by : (b : Bool) → (list_any test (filter keep xs) ≡ true → list_any test xs ≡ true) → list_any test (cond b (x ∷ filter keep xs) (filter keep xs)) ≡ true
        → (test x || list_any test xs) ≡ true
    by true more l = or-more (test x) (list_any test (filter keep xs)) (list_any test xs) more l
    by false more l = or-right (test x) (list_any test xs) (more l)

pub filter-some : {X : Type 0} (keep : X → Bool) (xs : List X) → list_any keep xs ≡ true → is_some_list (filter keep xs) ≡ true
filter-some keep [] h = cc
filter-some keep (x ∷ xs) h = by (keep x) (filter-some keep xs) h
  where
    by : (b : Bool) → (list_any keep xs ≡ true → is_some_list (filter keep xs) ≡ true) → (b || list_any keep xs) ≡ true → is_some_list (cond b (x ∷ filter keep xs) (filter keep xs)) ≡ true
    by true more l = refl
    by false more l = more l

-- ---- the same part

numbers-is : (xs ys : List ℕ) → numbers_eq xs ys ≡ true → xs ≡ ys
numbers-is [] [] e = refl
numbers-is [] (y ∷ ys) e = cc
numbers-is (x ∷ xs) [] e = cc
numbers-is (x ∷ xs) (y ∷ ys) e =
    let a : x ≡ y = eqb-true x y (and-left (x == y) (numbers_eq xs ys) e) in
    let b : xs ≡ ys = numbers-is xs ys (and-right (x == y) (numbers_eq xs ys) e) in
    cc

route-is : (r s : Route) → route_eq r s ≡ true → r ≡ s
route-is (by_hash a) (by_hash b) e = ap by_hash (numbers-is a b e)
route-is (by_hash a) (by_range j) e = cc
route-is (by_range i) (by_hash b) e = cc
route-is (by_range i) (by_range j) e = ap by_range (eqb-true i j e)

numbers-same : (xs : List ℕ) → numbers_eq xs xs ≡ true
numbers-same [] = refl
numbers-same (x ∷ xs) = and-both (x == x) (numbers_eq xs xs) (same-number x) (numbers-same xs)

route-same : (r : Route) → route_eq r r ≡ true
route-same (by_hash a) = numbers-same a
route-same (by_range j) = same-number j

gives-same : (q : Part) → part_gives q q ≡ true
gives-same one = refl
gives-same any = refl
gives-same all = refl
gives-same (routed r cols) = and-both (route_eq r r) (numbers_eq cols cols) (route-same r) (numbers-same cols)

part-same : (q : Part) → same_part q q ≡ true
part-same q = and-both (part_gives q q) (part_gives q q) (gives-same q) (gives-same q)

-- only a part that is routed so gives a routed one
pub routed-is : (q : Part) (r : Route) (cols : List ℕ) → part_gives q (routed r cols) ≡ true → q ≡ routed r cols
routed-is one r cols h = cc
routed-is any r cols h = cc
routed-is all r cols h = cc
routed-is (routed s ds) r cols h =
    let a : s ≡ r = route-is s r (and-left (route_eq s r) (numbers_eq ds cols) h) in
    let b : ds ≡ cols = numbers-is ds cols (and-right (route_eq s r) (numbers_eq ds cols) h) in
    cc

pub part-is : (q z : Part) → same_part q z ≡ true → q ≡ z
part-is one one h = refl
part-is one any h = cc
part-is one all h = cc
part-is one (routed r cols) h = cc
part-is any one h = cc
part-is any any h = refl
part-is any all h = cc
part-is any (routed r cols) h = cc
part-is all one h = cc
part-is all any h = cc
part-is all all h = refl
part-is all (routed r cols) h = cc
part-is (routed s ds) z h = sym (routed-is z s ds (and-right (part_gives (routed s ds) z) (part_gives z (routed s ds)) h))

-- a part of the list that passes
pub any-at : (test : Part → Bool) (x : Part) (xs : List Part) → list_any (same_part x) xs ≡ true → test x ≡ true → list_any test xs ≡ true
any-at test x xs h t = any-more (same_part x) test xs (λ z e. ap test (sym (part-is x z e)) ∙ t) h

-- ---- lists with each part once

or-join : (a b c : Bool) → (a || b) ≡ true → (a || (b || c)) ≡ true
or-join true b c h = refl
or-join false b c h = or-left b c h

or-into : (e a b c : Bool) → (e ≡ true → (a || b) ≡ true) → (e || c) ≡ true → (a || (b || c)) ≡ true
or-into true a b c f h = or-join a b c (f refl)
or-into false a b c f h = or-right a (b || c) (or-right b c h)

or-back : (e a b c : Bool) → ((a || b) ≡ true → e ≡ true) → (a || (b || c)) ≡ true → (e || c) ≡ true
or-back e true b c f h = or-left e c (f refl)
or-back e false true c f h = or-left e c (f refl)
or-back e false false c f h = or-right e c h

any-with-one : (test : Part → Bool) (parts : List Part) (q : Part) → list_any test (with_part parts q) ≡ true → (list_any test parts || test q) ≡ true
any-with-one test parts q h = by (list_any (same_part q) parts) h
  where
    by : (b : Bool) → list_any test (cond b parts (parts ++ q ∷ [])) ≡ true → (list_any test parts || test q) ≡ true
    by true k = or-left (list_any test parts) (test q) k
    by false k = ap (λ b. list_any test parts || b) (sym (or-false (test q))) ∙ (sym (list_any-append test parts (q ∷ [])) ∙ k)

any-with : (test : Part → Bool) (parts qs : List Part) → list_any test (with_parts parts qs) ≡ true → (list_any test parts || list_any test qs) ≡ true
any-with test parts [] h = or-left (list_any test parts) false h
any-with test parts (q ∷ qs) h =
    or-into (list_any test (with_part parts q)) (list_any test parts) (test q) (list_any test qs) (any-with-one test parts q) (any-with test (with_part parts q) qs h)

with-one-any : (test : Part → Bool) (parts : List Part) (q : Part) → (list_any test parts || test q) ≡ true → list_any test (with_part parts q) ≡ true
with-one-any test parts q h = by (list_any (same_part q) parts) refl
  where
    or-case : (a : Bool) → list_any test parts ≡ a → list_any (same_part q) parts ≡ true → (a || test q) ≡ true → list_any test parts ≡ true
    or-case true e f k = e
    or-case false e f k = any-at test q parts f k

    by : (b : Bool) → list_any (same_part q) parts ≡ b → list_any test (cond b parts (parts ++ q ∷ [])) ≡ true
    by true e = or-case (list_any test parts) refl e h
    by false e = list_any-append test parts (q ∷ []) ∙ (ap (λ b. list_any test parts || b) (or-false (test q)) ∙ h)

with-any : (test : Part → Bool) (parts qs : List Part) → (list_any test parts || list_any test qs) ≡ true → list_any test (with_parts parts qs) ≡ true
with-any test parts [] h = sym (or-false (list_any test parts)) ∙ h
with-any test parts (q ∷ qs) h =
    with-any test (with_part parts q) qs (or-back (list_any test (with_part parts q)) (list_any test parts) (test q) (list_any test qs) (with-one-any test parts q) h)

-- what is among the parts that tell the most is among all
told-some : (test : Part → Bool) (parts : List Part) → list_any test (most_telling (with_parts [] parts)) ≡ true → list_any test parts ≡ true
told-some test parts h = any-with test [] parts (by (list_any is_routed (with_parts [] parts)) h)
  where
    by : (b : Bool) → list_any test (cond b (filter is_routed (with_parts [] parts)) (with_parts [] parts)) ≡ true → list_any test (with_parts [] parts) ≡ true
    by true k = any-filter test is_routed (with_parts [] parts) k
    by false k = k

-- where there is a part, one tells the most
some-told : (parts : List Part) → list_any (λ z. true) parts ≡ true → is_some_list (most_telling (with_parts [] parts)) ≡ true
some-told parts h = by (list_any is_routed (with_parts [] parts)) refl
  where
    by : (b : Bool) → list_any is_routed (with_parts [] parts) ≡ b → is_some_list (cond b (filter is_routed (with_parts [] parts)) (with_parts [] parts)) ≡ true
    by true e = filter-some is_routed (with_parts [] parts) e
    by false e = some-any (with_parts [] parts) ∙ with-any (λ z. true) [] parts h

-- any part is among them only where none is routed
no-routed : (xs : List Part) → list_any (same_part any) (filter is_routed xs) ≡ true → ⊥
no-routed [] h = cc
no-routed (x ∷ xs) h = by x (no-routed xs) h
  where
    by : (z : Part) → (list_any (same_part any) (filter is_routed xs) ≡ true → ⊥) → list_any (same_part any) (cond (is_routed z) (z ∷ filter is_routed xs) (filter is_routed xs)) ≡ true → ⊥
    by one more l = more l
    by any more l = more l
    by all more l = more l
    by (routed r cols) more l = more l

pub told-any : (parts : List Part) → list_any (same_part any) (most_telling (with_parts [] parts)) ≡ true → list_any is_routed parts ≡ true → ⊥
told-any parts h k = by (list_any is_routed (with_parts [] parts)) (with-any is_routed [] parts k) h
  where
    by : (b : Bool) → b ≡ true → list_any (same_part any) (cond b (filter is_routed (with_parts [] parts)) (with_parts [] parts)) ≡ true → ⊥
    by true e l = no-routed (with_parts [] parts) l
    by false e l = cc

-- ---- copies

-- the lists of copies are copies
lists-source : (k : Copying) (cols : List ℕ) (test : List ℕ → Bool) → list_any test (copied_lists k cols) ≡ true → (ds : List ℕ) × (sources k ds ≡ Some cols) × (test ds ≡ true)
lists-source k [] test h = ([], refl, sym (or-false (test [])) ∙ h)
lists-source k (c ∷ cs) test h =
    let lists = copied_lists k cs in
    let there = any-take test 64 (in_front k c lists) h in
    let w = any-number (λ d. list_any test (map (λ ds. d ∷ ds) lists)) (copies k c) (sym (any-flat test (λ d. map (λ ds. d ∷ ds) lists) (copies k c)) ∙ there) in
    let v = lists-source k cs (λ ds. test (w.0 ∷ ds)) (sym (list_any-map test (λ ds. w.0 ∷ ds) lists) ∙ w.2) in
    (w.0 ∷ v.0, ap (λ o. cons_both o (sources k v.0)) (copies-source k c w.0 w.1) ∙ ap (cons_both (Some c)) v.1, v.2)

-- ---- ways

-- inputs that have a routed part have any
routed-any : (from : List (Bool × Part)) (r : Route) (cols : List ℕ) → each_has from (routed r cols) ≡ true → each_has from any ≡ true
routed-any from r cols h = all-more (λ f. input_has f (routed r cols)) (λ f. input_has f any) from (λ f l. by f.0 f.1 l) h
  where
    by : (b : Bool) (p : Part) → (b || part_gives p (routed r cols)) ≡ true → (b || part_gives p any) ≡ true
    by true p l = refl
    by false p l = let is : p ≡ routed r cols = routed-is p r cols l in rw is refl

-- what is carried up of a part that each input has is given
up-gives : (k : Copying) (from : List (Bool × Part)) (p q : Part) → each_has from p ≡ true → list_any (same_part q) (parts_up k p) ≡ true → gives (way k from) q ≡ true
up-gives k from one q has h = cc
up-gives k from any q has h = let is : q ≡ any = part-is q any (sym (or-false (same_part q any)) ∙ h) in rw is has
up-gives k from all q has h = let is : q ≡ all = part-is q all (sym (or-false (same_part q all)) ∙ h) in rw is has
up-gives k from (routed r cols) q has h = by (copied_lists k cols) refl h
  where
    by : (lists : List (List ℕ)) → copied_lists k cols ≡ lists → list_any (same_part q) (routed_by r lists) ≡ true → gives (way k from) q ≡ true
    by [] e l = let is : q ≡ any = part-is q any (sym (or-false (same_part q any)) ∙ l) in rw is (routed-any from r cols has)
    by (ds ∷ more) e l =
        let w = lists-source k cols (λ x. same_part q (routed r x)) (ap (list_any (λ x. same_part q (routed r x))) e ∙ (sym (list_any-map (same_part q) (routed r) (ds ∷ more)) ∙ l)) in
        let is : q ≡ routed r w.0 = part-is q (routed r w.0) w.2 in
        rw is (ap (λ o. if_some o (λ cs. each_has from (routed r cs))) w.1 ∙ has)

-- the part of one worker
abbrev pub is_alone : Part → Bool
is_alone one = true
is_alone any = false
is_alone all = false
is_alone (routed r cols) = false

kind-several : (k : ExchangeKind) → is_one (target k) ≡ false → is_alone (kind_part k) ≡ false
kind-several (route_to z r cols) h = refl
kind-several (round z) h = refl
kind-several (broadcast z) h = refl
kind-several gather h = cc
kind-several concat h = cc

-- the ways of a node on several workers are of one input's part, or of two inputs side by side
pub ways-each : (catalog : ℕ → Relation) (p : Plan) (good : Part → Bool) (P : Way → Bool) (x y : Part) → is_one (size p) ≡ false → good x ≡ true → good y ≡ true
    → ((z : Part) → is_alone z ≡ false → good z ≡ true) → ((k : Copying) (z : Part) → good z ≡ true → P (way k ((false, z) ∷ [])) ≡ true)
    → (((part_gives x any && part_gives y any) || (part_gives x all && part_gives y all)) ≡ true → P (way whole_rows ((false, x) ∷ (false, y) ∷ [])) ≡ true)
    → list_all P (ways_from catalog p (false, x) (false, y)) ≡ true
ways-each catalog (scan n c r true z) good P x y s gx gy made lone both = and-both (P (way whole_rows (bare any ∷ []))) true (lone whole_rows any (made any refl)) refl
ways-each catalog (scan n c r false z) good P x y s gx gy made lone both = and-both (P (way whole_rows (bare all ∷ []))) true (lone whole_rows all (made all refl)) refl
ways-each catalog (exchange n c k m p) good P x y s gx gy made lone both =
    and-both (P (way whole_rows (bare (kind_part k) ∷ []))) true (lone whole_rows (kind_part k) (made (kind_part k) (kind-several k s))) refl
ways-each catalog (unary n c op p) good P x y s gx gy made lone both = by (meet (described op).meets (false, x))
  where
    by : (b : Bool) → list_all P (if_so b (way (described op).copying ((false, x) ∷ []) ∷ [])) ≡ true
    by true = and-both (P (way (described op).copying ((false, x) ∷ []))) true (lone (described op).copying x gx) refl
    by false = refl
ways-each catalog (binary n c union p q) good P x y s gx gy made lone both = by ((part_gives x any && part_gives y any) || (part_gives x all && part_gives y all)) refl
  where
    by : (b : Bool) → ((part_gives x any && part_gives y any) || (part_gives x all && part_gives y all)) ≡ b
        → list_all P (if_so b (way whole_rows ((false, x) ∷ (false, y) ∷ []) ∷ [])) ≡ true
    by true e = and-both (P (way whole_rows ((false, x) ∷ (false, y) ∷ []))) true (both e) refl
    by false e = refl
ways-each catalog (binary n c (join m on) p q) good P x y s gx gy made lone both =
    let w : ℕ = width catalog p in
    list_all-append P (if_so (routed_alike on x y) (way whole_rows (bare x ∷ []) ∷ way (right_of w) (bare y ∷ []) ∷ []))
    (if_so (part_gives y all) (way (left_of w) ((false, x) ∷ []) ∷ []) ++ if_so (part_gives x all) (way (right_of w) ((false, y) ∷ []) ∷ []))
    ∙ and-both _ _ (two (routed_alike on x y))
    (list_all-append P (if_so (part_gives y all) (way (left_of w) ((false, x) ∷ []) ∷ [])) (if_so (part_gives x all) (way (right_of w) ((false, y) ∷ []) ∷ []))
    ∙ and-both _ _ (lefts (part_gives y all)) (rights (part_gives x all)))
  where
    two : (b : Bool) → list_all P (if_so b (way whole_rows (bare x ∷ []) ∷ way (right_of (width catalog p)) (bare y ∷ []) ∷ [])) ≡ true
    two true =
        and-both (P (way whole_rows (bare x ∷ []))) _ (lone whole_rows x gx) (and-both (P (way (right_of (width catalog p)) (bare y ∷ []))) true (lone (right_of (width catalog p)) y gy) refl)
    two false = refl

    lefts : (b : Bool) → list_all P (if_so b (way (left_of (width catalog p)) ((false, x) ∷ []) ∷ [])) ≡ true
    lefts true = and-both (P (way (left_of (width catalog p)) ((false, x) ∷ []))) true (lone (left_of (width catalog p)) x gx) refl
    lefts false = refl

    rights : (b : Bool) → list_all P (if_so b (way (right_of (width catalog p)) ((false, y) ∷ []) ∷ [])) ≡ true
    rights true = and-both (P (way (right_of (width catalog p)) ((false, y) ∷ []))) true (lone (right_of (width catalog p)) y gy) refl
    rights false = refl
ways-each catalog (binary n c (semi_join matched on conditions) p q) good P x y s gx gy made lone both =
    list_all-append P (if_so (routed_alike on x y) (way whole_rows (bare x ∷ []) ∷ [])) (if_so (part_gives y all) (way whole_rows ((false, x) ∷ []) ∷ []))
    ∙ and-both _ _ (lefts (routed_alike on x y)) (lefts (part_gives y all))
  where
    lefts : (b : Bool) → list_all P (if_so b (way whole_rows ((false, x) ∷ []) ∷ [])) ≡ true
    lefts true = and-both (P (way whole_rows ((false, x) ∷ []))) true (lone whole_rows x gx) refl
    lefts false = refl

-- each input of a way has the part that is common to all
abbrev is_had : Way → Bool
is_had w = each_has w.from (common_part w.from)

-- of two inputs side by side: the left one's part, if the right one has it
abbrev pub common_of : Part → Part → Part
common_of x y = cond (part_gives y x && true) x any

both-had : (x y : Part) → ((part_gives x any && part_gives y any) || (part_gives x all && part_gives y all)) ≡ true
    → each_has ((false, x) ∷ (false, y) ∷ []) (common_of x y) ≡ true
both-had one y h = cc
both-had any y h =
    let r : part_gives y any ≡ true = sym (or-false (part_gives y any)) ∙ h in
    rw r (and-both (part_gives y any) true r refl)
both-had all y h = rw h (and-both (part_gives y all) true h refl)
both-had (routed r cols) y h = by (part_gives y (routed r cols)) refl
  where
    right : part_gives y any ≡ true
    right = sym (or-false (part_gives y any)) ∙ h

    by : (b : Bool) → part_gives y (routed r cols) ≡ b → each_has ((false, routed r cols) ∷ (false, y) ∷ []) (cond (b && true) (routed r cols) any) ≡ true
    by true e = and-both (part_gives (routed r cols) (routed r cols)) (part_gives y (routed r cols) && true) (gives-same (routed r cols)) (and-both (part_gives y (routed r cols)) true e refl)
    by false e = and-both (part_gives y any) true right refl

ways-had : (catalog : ℕ → Relation) (p : Plan) (x y : Part) → is_one (size p) ≡ false → list_all is_had (ways_from catalog p (false, x) (false, y)) ≡ true
ways-had catalog p x y s =
    ways-each catalog p (λ z. true) is_had x y s refl refl (λ z e. refl) (λ k z e. and-both (part_gives z z) true (gives-same z) refl) (both-had x y)

-- ---- options

-- a claim that is kept as it is
abbrev pub is_claimed : Part → Bool
is_claimed one = false
is_claimed any = false
is_claimed all = true
is_claimed (routed r cols) = true

-- what the inputs of a node can claim, and the list of one part for an input that is not there
abbrev pub lefts_at : (ℕ → Relation) → Plan → List Part
lefts_at catalog (scan n c r m z) = no_input
lefts_at catalog (unary n c op p) = parts_at catalog p
lefts_at catalog (binary n c op p q) = parts_at catalog p
lefts_at catalog (exchange n c k m p) = no_input

abbrev pub rights_at : (ℕ → Relation) → Plan → List Part
rights_at catalog (scan n c r m z) = no_input
rights_at catalog (unary n c op p) = no_input
rights_at catalog (binary n c op p q) = parts_at catalog q
rights_at catalog (exchange n c k m p) = no_input

pub parts-at-is : (catalog : ℕ → Relation) (p : Plan) → parts_at catalog p ≡ take 64 (parts_above catalog p (lefts_at catalog p) (rights_at catalog p))
parts-at-is catalog (scan n c r m z) = refl
parts-at-is catalog (unary n c op p) = refl
parts-at-is catalog (binary n c op p q) = refl
parts-at-is catalog (exchange n c k m p) = refl

-- one of the pairs of the inputs' parts passes
abbrev pub some_pair : (Part → Part → Bool) → (lefts rights : List Part) → Bool
some_pair test lefts rights = list_any (λ x. list_any (test x) rights) lefts

pair-more : (p q : Part → Part → Bool) (lefts rights : List Part) → ((x y : Part) → p x y ≡ true → q x y ≡ true) → some_pair p lefts rights ≡ true → some_pair q lefts rights ≡ true
pair-more p q lefts rights f h = any-more (λ x. list_any (p x) rights) (λ x. list_any (q x) rights) lefts (λ x k. any-more (p x) (q x) rights (f x) k) h

-- a part over these inputs passes
abbrev pub passes_over : (ℕ → Relation) → Plan → (Part → Bool) → Part → Part → Bool
passes_over catalog p test x y = list_any (λ w. list_any test (parts_of_way w)) (ways_from catalog p (false, x) (false, y))

pub among-some : (catalog : ℕ → Relation) (p : Plan) (test : Part → Bool) (lefts rights : List Part)
    → list_any test (parts_among catalog p lefts rights) ≡ some_pair (passes_over catalog p test) lefts rights
among-some catalog p test lefts rights =
    any-flat test (λ x. flat_map (parts_over catalog p x) rights) lefts
    ∙ list_any-ext _ _ lefts
    (λ x. any-flat test (parts_over catalog p x) rights
    ∙ list_any-ext _ _ rights (λ y. any-flat test parts_of_way (ways_from catalog p (false, x) (false, y))))

pub if-given : (catalog : ℕ → Relation) (p : Plan) (test : Part → Bool) (z : Part) (lefts rights : List Part) → list_any test (part_if_given catalog p z lefts rights) ≡ true
    → (test z ≡ true) × (some_pair (gives_part catalog p z) lefts rights ≡ true)
if-given catalog p test z lefts rights h = by (some_pair (gives_part catalog p z) lefts rights) refl h
  where
    by : (b : Bool) → some_pair (gives_part catalog p z) lefts rights ≡ b → list_any test (cond b (z ∷ []) []) ≡ true
        → (test z ≡ true) × (some_pair (gives_part catalog p z) lefts rights ≡ true)
    by true e k = (sym (or-false (test z)) ∙ k, e)
    by false e k = cc

-- a part that is told is one over some inputs, or the one that is kept
told-cases : (catalog : ℕ → Relation) (p : Plan) (test : Part → Bool) (G : Type 0) (z : Part) (lefts rights : List Part) → list_any test (told_parts catalog p z lefts rights) ≡ true
    → (is_claimed z ≡ false → some_pair (passes_over catalog p test) lefts rights ≡ true → G) → (is_claimed z ≡ true → test z ≡ true → some_pair (gives_part catalog p z) lefts rights ≡ true → G) → G
told-cases catalog p test G one lefts rights h over kept = over refl (sym (among-some catalog p test lefts rights) ∙ told-some test (parts_among catalog p lefts rights) h)
told-cases catalog p test G any lefts rights h over kept = over refl (sym (among-some catalog p test lefts rights) ∙ told-some test (parts_among catalog p lefts rights) h)
told-cases catalog p test G all lefts rights h over kept = let w = if-given catalog p test all lefts rights h in kept refl w.0 w.1
told-cases catalog p test G (routed r cols) lefts rights h over kept = let w = if-given catalog p test (routed r cols) lefts rights h in kept refl w.0 w.1

-- a part that passes, among the options of a node on several workers
pub option-cases : (catalog : ℕ → Relation) (p : Plan) (test : Part → Bool) (G : Type 0) → is_one (size p) ≡ false → list_any test (parts_at catalog p) ≡ true
    → (is_claimed (claim p).part ≡ false → some_pair (passes_over catalog p test) (lefts_at catalog p) (rights_at catalog p) ≡ true → G)
    → (is_claimed (claim p).part ≡ true → test (claim p).part ≡ true → some_pair (gives_part catalog p (claim p).part) (lefts_at catalog p) (rights_at catalog p) ≡ true → G) → G
option-cases catalog p test G s h over kept =
    let lefts = lefts_at catalog p in
    let rights = rights_at catalog p in
    let there = any-take test 64 (parts_above catalog p lefts rights) (sym (ap (list_any test) (parts-at-is catalog p)) ∙ h) in
    told-cases catalog p test G (claim p).part lefts rights (sym (ap (λ b. list_any test (cond b (one ∷ []) (told_parts catalog p (claim p).part lefts rights))) s) ∙ there) over kept

-- an option is shown over some inputs
given-somewhere : (catalog : ℕ → Relation) (p : Plan) (q : Part) → is_one (size p) ≡ false → list_any (same_part q) (parts_at catalog p) ≡ true
    → some_pair (gives_part catalog p q) (lefts_at catalog p) (rights_at catalog p) ≡ true
given-somewhere catalog p q s h =
    option-cases catalog p (same_part q) (some_pair (gives_part catalog p q) (lefts_at catalog p) (rights_at catalog p) ≡ true) s h
    (λ c k. pair-more (passes_over catalog p (same_part q)) (gives_part catalog p q) (lefts_at catalog p) (rights_at catalog p)
    (λ x y l.
    any-where is_had (λ w. list_any (same_part q) (parts_of_way w)) (λ w. gives w q) (ways_from catalog p (false, x) (false, y)) (ways-had catalog p x y s)
    (λ w had t. up-gives w.copying w.from (common_part w.from) q had t) l) k)
    (λ c t g. ap (λ z. some_pair (gives_part catalog p z) (lefts_at catalog p) (rights_at catalog p)) (part-is q (claim p).part t) ∙ g)

-- ---- the first that passes

pub find-some : (test : Part → Bool) (xs : List Part) → list_any test xs ≡ true → (y : Part) × (find test xs ≡ Some y) × (test y ≡ true)
find-some test [] h = cc
find-some test (x ∷ xs) h = by (test x) refl (find-some test xs) h
  where
    by : (b : Bool) → test x ≡ b → (list_any test xs ≡ true → (y : Part) × (find test xs ≡ Some y) × (test y ≡ true)) → (b || list_any test xs) ≡ true
        → (y : Part) × (cond b (Some x) (find test xs) ≡ Some y) × (test y ≡ true)
    by true e more l = (x, refl, e)
    by false e more l = more l

find-none : (test : Part → Bool) (xs : List Part) → list_any test xs ≡ false → find test xs ≡ None
find-none test [] h = refl
find-none test (x ∷ xs) h = by (test x) (find-none test xs) h
  where
    by : (b : Bool) → (list_any test xs ≡ false → find test xs ≡ None) → (b || list_any test xs) ≡ false → cond b (Some x) (find test xs) ≡ None
    by true more l = cc
    by false more l = more l

find-in : (test : Part → Bool) (xs : List Part) (y : Part) → find test xs ≡ Some y → (list_any (same_part y) xs ≡ true) × (test y ≡ true)
find-in test [] y h = cc
find-in test (x ∷ xs) y h = by (test x) refl (find-in test xs y) h
  where
    by : (b : Bool) → test x ≡ b → (find test xs ≡ Some y → (list_any (same_part y) xs ≡ true) × (test y ≡ true)) → cond b (Some x) (find test xs) ≡ Some y
        → (list_any (same_part y) (x ∷ xs) ≡ true) × (test y ≡ true)
    by true e more l = let is : y ≡ x = cc in (or-left (same_part y x) (list_any (same_part y) xs) (ap (λ z. same_part z x) is ∙ part-same x), ap test is ∙ e)
    by false e more l = let w = more l in (or-right (same_part y x) (list_any (same_part y) xs) w.0, w.1)

two-some : (test : Part → Part → Bool) (lefts rights : List Part) → some_pair test lefts rights ≡ true
    → (w : Part × Part) × (first_two test lefts rights ≡ Some w) × (test w.0 w.1 ≡ true)
two-some test [] rights h = cc
two-some test (x ∷ xs) rights h = by (list_any (test x) rights) refl (two-some test xs rights) h
  where
    by : (b : Bool) → list_any (test x) rights ≡ b → (some_pair test xs rights ≡ true → (w : Part × Part) × (first_two test xs rights ≡ Some w) × (test w.0 w.1 ≡ true))
        → (b || some_pair test xs rights) ≡ true → (w : Part × Part) × (first_two test (x ∷ xs) rights ≡ Some w) × (test w.0 w.1 ≡ true)
    by true e more l =
        let v = find-some (test x) rights e in
        ((x, v.0), ap (λ (o : Option Part). or_else {X = Part × Part} (option_map {U = Part × Part} (λ y. (x, y)) o) (first_two test xs rights)) v.1, v.2)
    by false e more l =
        let w = more l in
        (w.0, ap (λ (o : Option Part). or_else {X = Part × Part} (option_map {U = Part × Part} (λ y. (x, y)) o) (first_two test xs rights)) (find-none (test x) rights e) ∙ w.1, w.2)

two-in : (test : Part → Part → Bool) (lefts rights : List Part) (w : Part × Part) → first_two test lefts rights ≡ Some w
    → (list_any (same_part w.0) lefts ≡ true) × (list_any (same_part w.1) rights ≡ true)
two-in test [] rights w h = cc
two-in test (x ∷ xs) rights w h = by (find (test x) rights) refl (two-in test xs rights w) h
  where
    by : (o : Option Part) → find (test x) rights ≡ o → (first_two test xs rights ≡ Some w → (list_any (same_part w.0) xs ≡ true) × (list_any (same_part w.1) rights ≡ true))
        → or_else {X = Part × Part} (option_map {U = Part × Part} (λ y. (x, y)) o) (first_two test xs rights) ≡ Some w
        → (list_any (same_part w.0) (x ∷ xs) ≡ true) × (list_any (same_part w.1) rights ≡ true)
    by None e more l = let v = more l in (or-right (same_part w.0 x) (list_any (same_part w.0) xs) v.0, v.1)
    by (Some y) e more l =
        let is : w ≡ (x, y) = cc in
        let v = find-in (test x) rights y e in
        let left : w.0 ≡ x = ap (λ v. v.0) is in
        let right : w.1 ≡ y = ap (λ v. v.1) is in
        (or-left (same_part w.0 x) (list_any (same_part w.0) xs) (ap (λ z. same_part z x) left ∙ part-same x), ap (λ z. list_any (same_part z) rights) right ∙ v.0)

option-of : (q : Part) (parts : List Part) → list_any (same_part q) parts ≡ true → is_option parts q ≡ true
option-of q [] h = cc
option-of q (x ∷ xs) h = h

pub option-in : (q : Part) (parts : List Part) → is_some_list parts ≡ true → is_option parts q ≡ true → list_any (same_part q) parts ≡ true
option-in q [] s h = cc
option-in q (x ∷ xs) s h = h

first-option : (parts : List Part) → is_option parts (first_part parts) ≡ true
first-option [] = refl
first-option (x ∷ xs) = or-left (same_part x x) (list_any (same_part x) xs) (part-same x)

-- the parts of the inputs are among their options
pub below-in : (catalog : ℕ → Relation) (p : Plan) (q : Part) (lefts rights : List Part)
    → (is_option lefts (parts_below catalog p q lefts rights).0 ≡ true) × (is_option rights (parts_below catalog p q lefts rights).1 ≡ true)
below-in catalog p q lefts rights = by (first_two (is_given catalog p q) lefts rights) refl
  where
    by : (o : Option (Part × Part)) → first_two (is_given catalog p q) lefts rights ≡ o
        → (is_option lefts (unwrap_or o (first_part lefts, first_part rights)).0 ≡ true) × (is_option rights (unwrap_or o (first_part lefts, first_part rights)).1 ≡ true)
    by None e = (first-option lefts, first-option rights)
    by (Some w) e = let v = two-in (is_given catalog p q) lefts rights w e in (option-of w.0 lefts v.0, option-of w.1 rights v.1)

pub sent-in : (k : ExchangeKind) (order : List OrderEntry) (parts : List Part) → is_option parts (part_sent k order parts) ≡ true
sent-in (route_to z r cols) order parts = first-option parts
sent-in (round z) order parts = first-option parts
sent-in (broadcast z) order parts = first-option parts
sent-in gather order parts = first-option parts
sent-in concat order parts = by (find (λ x. rises_by x order) parts) refl
  where
    by : (o : Option Part) → find (λ x. rises_by x order) parts ≡ o → is_option parts (unwrap_or o (first_part parts)) ≡ true
    by None e = first-option parts
    by (Some y) e = option-of y parts (find-in (λ x. rises_by x order) parts y e).0

-- the parts below show the node's part
pub below-given : (catalog : ℕ → Relation) (p : Plan) (q : Part) → is_one (size p) ≡ false → list_any (same_part q) (parts_at catalog p) ≡ true
    → gives_part catalog p q (parts_below catalog p q (lefts_at catalog p) (rights_at catalog p)).0 (parts_below catalog p q (lefts_at catalog p) (rights_at catalog p)).1 ≡ true
below-given catalog p q s h =
    let lefts = lefts_at catalog p in
    let rights = rights_at catalog p in
    let w =
    two-some (is_given catalog p q) lefts rights
    (pair-more (gives_part catalog p q) (is_given catalog p q) lefts rights (λ x y l. or-right (is_one (size p)) (gives_part catalog p q x y) l) (given-somewhere catalog p q s h)) in
    let given : gives_part catalog p q w.0.0 w.0.1 ≡ true = ap (λ b. b || gives_part catalog p q w.0.0 w.0.1) (sym s) ∙ w.2 in
    ap (λ (o : Option (Part × Part)). gives_part catalog p q (unwrap_or o (first_part lefts, first_part rights)).0 (unwrap_or o (first_part lefts, first_part rights)).1) w.1 ∙ given

-- ---- parts of several workers

all-true : {X : Type 0} (xs : List X) → list_all (λ x. true) xs ≡ true
all-true [] = refl
all-true (x ∷ xs) = all-true xs

pub pair-none : (good fine : Part → Bool) (test : Part → Part → Bool) (lefts rights : List Part) → list_all good lefts ≡ true → list_all fine rights ≡ true
    → ((x y : Part) → good x ≡ true → fine y ≡ true → test x y ≡ true → ⊥) → some_pair test lefts rights ≡ true → ⊥
pair-none good fine test lefts rights g f none h =
    none-where good (λ x. list_any (test x) rights) lefts g (λ x gx k. none-where fine (test x) rights f (λ y fy l. none x y gx fy l) k) h

map-several : (r : Route) (lists : List (List ℕ)) → list_any is_alone (map (routed r) lists) ≡ false
map-several r [] = refl
map-several r (ds ∷ lists) = map-several r lists

up-several : (k : Copying) (z : Part) → list_any is_alone (parts_up k z) ≡ false
up-several k one = refl
up-several k any = refl
up-several k all = refl
up-several k (routed r cols) = by (copied_lists k cols)
  where
    by : (lists : List (List ℕ)) → list_any is_alone (routed_by r lists) ≡ false
    by [] = refl
    by (ds ∷ lists) = map-several r lists

claimed-several : (z : Part) → is_claimed z ≡ true → is_alone z ≡ true → ⊥
claimed-several one h k = cc
claimed-several any h k = cc
claimed-several all h k = cc
claimed-several (routed r cols) h k = cc

-- a node on several workers has no part of one
parts-several : (catalog : ℕ → Relation) (p : Plan) → is_one (size p) ≡ false → list_any is_alone (parts_at catalog p) ≡ false
parts-several catalog p s =
    not-so _
    (λ h. option-cases catalog p is_alone ⊥ s h
    (λ c k. pair-none (λ x. true) (λ x. true) (passes_over catalog p is_alone) (lefts_at catalog p) (rights_at catalog p) (all-true (lefts_at catalog p)) (all-true (rights_at catalog p))
    (λ x y gx fy l.
    none-where (λ w. true) (λ w. list_any is_alone (parts_of_way w)) (ways_from catalog p (false, x) (false, y)) (all-true (ways_from catalog p (false, x) (false, y)))
    (λ w g t. let none : list_any is_alone (parts_of_way w) ≡ false = up-several w.copying (common_part w.from) in cc) l) k)
    (λ c t g. claimed-several (claim p).part c t))

-- inputs of one size name
pub both-several : (a b : Size) → size_eq a b ≡ true → is_one a ≡ false → is_one b ≡ false
both-several one_worker b h k = cc
both-several (group_of i) one_worker h k = cc
both-several (group_of i) (group_of j) h k = refl

lefts-several : (catalog : ℕ → Relation) (p : Plan) → is_one (size p) ≡ false → list_any is_alone (lefts_at catalog p) ≡ false
lefts-several catalog (scan n c r m z) s = refl
lefts-several catalog (unary n c op p) s = parts-several catalog p s
lefts-several catalog (binary n c op p q) s = parts-several catalog p s
lefts-several catalog (exchange n c k m p) s = refl

rights-several : (catalog : ℕ → Relation) (p : Plan) → is_one (size p) ≡ false → sizes_match p ≡ true → list_any is_alone (rights_at catalog p) ≡ false
rights-several catalog (scan n c r m z) s e = refl
rights-several catalog (unary n c op p) s e = refl
rights-several catalog (binary n c op p q) s e = parts-several catalog q (both-several (size p) (size q) e s)
rights-several catalog (exchange n c k m p) s e = refl

-- a way tells a part
up-tells : (k : Copying) (z : Part) → is_alone z ≡ false → list_any (λ x. true) (parts_up k z) ≡ true
up-tells k one h = cc
up-tells k any h = refl
up-tells k all h = refl
up-tells k (routed r cols) h = by (copied_lists k cols)
  where
    by : (lists : List (List ℕ)) → list_any (λ x. true) (routed_by r lists) ≡ true
    by [] = refl
    by (ds ∷ lists) = refl

abbrev tells : Way → Bool
tells w = list_any (λ x. true) (parts_of_way w)

not-true : (b : Bool) → not b ≡ true → b ≡ false
not-true true h = cc
not-true false h = refl

not-false : (b : Bool) → b ≡ false → not b ≡ true
not-false b h = ap not h

ways-tell : (catalog : ℕ → Relation) (p : Plan) (x y : Part) → is_one (size p) ≡ false → is_alone x ≡ false → is_alone y ≡ false
    → list_all tells (ways_from catalog p (false, x) (false, y)) ≡ true
ways-tell catalog p x y s hx hy =
    ways-each catalog p (λ z. not (is_alone z)) tells x y s (not-false (is_alone x) hx) (not-false (is_alone y) hy) (λ z e. not-false (is_alone z) e)
    (λ k z e. up-tells k z (not-true (is_alone z) e)) (λ e. up-tells whole_rows (common_of x y) (by (part_gives y x && true)))
  where
    by : (b : Bool) → is_alone (cond b x any) ≡ false
    by true = hx
    by false = refl

-- a part of the list
none-at : (test : Part → Bool) (x : Part) (xs : List Part) → list_any test xs ≡ false → list_any (same_part x) xs ≡ true → test x ≡ false
none-at test x xs h k = not-so (test x) (λ t. let there : list_any test xs ≡ true = any-at test x xs k t in cc)

-- where there is a way over parts of the inputs, the node can claim one
pub met-some : (catalog : ℕ → Relation) (p : Plan) (x y : Part) → is_one (size p) ≡ false → sizes_match p ≡ true → (claim p).part ≡ any
    → list_any (same_part x) (lefts_at catalog p) ≡ true → list_any (same_part y) (rights_at catalog p) ≡ true
    → list_any (λ w. true) (ways_from catalog p (false, x) (false, y)) ≡ true → is_some_list (parts_at catalog p) ≡ true
met-some catalog p x y s e c hx hy h =
    let lefts = lefts_at catalog p in
    let rights = rights_at catalog p in
    let told =
    ways-tell catalog p x y s (none-at is_alone x lefts (lefts-several catalog p s) hx) (none-at is_alone y rights (rights-several catalog p s e) hy) in
    let over : passes_over catalog p (λ z. true) x y ≡ true =
    any-where tells (λ w. true) (λ w. list_any (λ z. true) (parts_of_way w)) (ways_from catalog p (false, x) (false, y)) told (λ w t l. t) h in
    let among : list_any (λ z. true) (parts_among catalog p lefts rights) ≡ true =
    among-some catalog p (λ z. true) lefts rights ∙ any-at (λ z. list_any (passes_over catalog p (λ z. true) z) rights) x lefts hx (any-at (passes_over catalog p (λ z. true) x) y rights hy over) in
    ap is_some_list (parts-at-is catalog p)
    ∙ take-some 63 (parts_above catalog p lefts rights)
    (ap (λ b. is_some_list (cond b (one ∷ []) (told_parts catalog p (claim p).part lefts rights))) s
    ∙ (ap (λ z. is_some_list (told_parts catalog p z lefts rights)) c ∙ some-told (parts_among catalog p lefts rights) among))
