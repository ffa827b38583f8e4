-- Copies of all rows: the parts that a node can claim are all of them all, or none is.
use Rattle.std.proofs.Common.{ℕ, ◌≡◌, Bool, true, false, cond, not, ◌&&◌, ◌||◌, ⊎_elim, List, [], ◌∷◌, ◌++◌, map, flat_map, filter, take, zero, suc, Option, Some, None, refl, ap, ◌∙◌}
use Rattle.std.specs.List.{list_all, list_any}
use Rattle.std.proofs.lemmas.List.Folds.{list_all-append}
use Rattle.vx_rows_values.specs.Lists.{is_some_list}
use Rattle.vx_rows_values.proofs.Booleans.{and-left, and-right, and-both}
use Rattle.vx_catalog_relations.specs.Relation.{Relation}
use Rattle.vx_plan_nodes.specs.Plan.{Route, Part, one, any, all, routed, union, join, semi_join, ExchangeKind, route_to, round, broadcast, gather, concat, Plan, scan, unary, binary, exchange, claim, size, is_one}
use Rattle.vx_plan_nodes.specs.Parts.{kind_part}
use Rattle.vx_plan_nodes.specs.Types.{width}
use Rattle.vx_plan_nodes.specs.Describe.{Copying, whole_rows, right_of, left_of, described}
use Rattle.vx_check_rules.specs.Rules.{part_gives, if_some, routed_alike}
use Rattle.vx_check_rules.specs.Behaviour.{sources, Way, way, if_so, bare, meet, input_has, each_has, gives, common_part, ways_from}
use Rattle.vx_check_rules.proofs.Bools.{and-true, all-more}
use Rattle.vx_check_options.specs.Options.{copied_lists, routed_by, parts_up, parts_of_way, parts_over, parts_among, same_part, with_part, with_parts, is_routed, most_telling, gives_part, part_if_given, told_parts, parts_above, no_input, parts_at}
use Rattle.vx_check_options.proofs.Telling.{gives-is, way-more, alike-routed, any-both}

-- ---- kinds of parts

-- all, or else any or a route; and never the part of one worker
abbrev pub alike : Bool → Part → Bool
alike b one = false
alike b any = not b
alike b all = b
alike b (routed r cols) = not b

-- or the part of one worker
abbrev pub one_or : Bool → Part → Bool
one_or b one = true
one_or b q = alike b q

-- whether each worker of a node has all rows, by whether each of its inputs' workers has
abbrev pub replicates : Plan → Bool → Bool → Bool
replicates (scan n c r m z) a b = not m
replicates (unary n c op p) a b = a
replicates (binary n c union p q) a b = a
replicates (binary n c (join m on) p q) a b = a && b
replicates (binary n c (semi_join matched on conditions) p q) a b = a
replicates (exchange n c k m p) a b = part_gives (kind_part k) all

abbrev pub replicated : Plan → Bool
replicated (scan n c r m z) = replicates (scan n c r m z) false false
replicated (unary n c op p) = replicates (unary n c op p) (replicated p) false
replicated (binary n c op p q) = replicates (binary n c op p q) (replicated p) (replicated q)
replicated (exchange n c k m p) = replicates (exchange n c k m p) false false

one-or : (b : Bool) (q : Part) → alike b q ≡ true → one_or b q ≡ true
one-or b one h = refl
one-or b any h = h
one-or b all h = h
one-or b (routed r cols) h = h

-- ---- ways

-- a way of inputs that claim their parts by themselves
abbrev pub plain : Way → Bool
plain w = is_some_list w.from && list_all (λ f. not f.0) w.from

abbrev pub fair : Bool → Way → Bool
fair b w = plain w && one_or b (common_part w.from)

all-so : {X : Type 0} (f : X → Bool) (b : Bool) (xs : List X) → (b ≡ true → list_all f xs ≡ true) → list_all f (if_so b xs) ≡ true
all-so f true xs h = h refl
all-so f false xs h = refl

all-joined : {X : Type 0} (f : X → Bool) (xs ys : List X) → list_all f xs ≡ true → list_all f ys ≡ true → list_all f (xs ++ ys) ≡ true
all-joined f xs ys h k = list_all-append f xs ys ∙ and-both (list_all f xs) (list_all f ys) h k

of-cond : (f : Part → Bool) (t : Bool) (p q : Part) → f p ≡ true → f q ≡ true → f (cond t p q) ≡ true
of-cond f true p q h k = h
of-cond f false p q h k = k

beside-fair : (a : Bool) (x y : Part) → one_or a x ≡ true → ((part_gives x any && part_gives y any) || (part_gives x all && part_gives y all)) ≡ true
    → one_or a (cond (part_gives y x && true) x any) ≡ true
beside-fair a one y h k = cc
beside-fair a any y h k = of-cond (one_or a) (part_gives y any && true) any any h h
beside-fair a all y h k = rw k h
beside-fair a (routed r cols) y h k = of-cond (one_or a) (part_gives y (routed r cols) && true) (routed r cols) any h h

all-kind : (b : Bool) (y : Part) → one_or b y ≡ true → part_gives y all ≡ true → b ≡ true
all-kind b one h k = cc
all-kind b any h k = cc
all-kind b all h k = h
all-kind b (routed r cols) h k = cc

routed-kind : (a : Bool) (x : Part) → one_or a x ≡ true → is_routed x ≡ true → a ≡ false
routed-kind true one h k = cc
routed-kind true any h k = cc
routed-kind true all h k = cc
routed-kind true (routed r cols) h k = cc
routed-kind false x h k = refl

routed-fair : (x : Part) → is_routed x ≡ true → one_or false x ≡ true
routed-fair one h = refl
routed-fair any h = refl
routed-fair all h = cc
routed-fair (routed r cols) h = refl

alike-fair : (on : List (ℕ × ℕ)) (a b : Bool) (w : ℕ) (x y : Part) → one_or a x ≡ true → routed_alike on x y ≡ true
    → list_all (fair (a && b)) (way whole_rows (bare x ∷ []) ∷ way (right_of w) (bare y ∷ []) ∷ []) ≡ true
alike-fair on a b w x y h e =
    let is = alike-routed on x y e in
    let none : a ≡ false = routed-kind a x h is.0 in
    rw none (and-both (one_or false x) (one_or false y && true) (routed-fair x is.0) (and-both (one_or false y) true (routed-fair y is.1) refl))

kind-fair : (k : ExchangeKind) → one_or (part_gives (kind_part k) all) (kind_part k) ≡ true
kind-fair (route_to z r cols) = refl
kind-fair (round z) = refl
kind-fair (broadcast z) = refl
kind-fair gather = refl
kind-fair concat = refl

pub fair-ways : (catalog : ℕ → Relation) (p : Plan) (a b : Bool) (x y : Part) → one_or a x ≡ true → one_or b y ≡ true → list_all (fair (replicates p a b)) (ways_from catalog p (false, x) (false, y)) ≡ true
fair-ways catalog (scan n c r true z) a b x y h k = refl
fair-ways catalog (scan n c r false z) a b x y h k = refl
fair-ways catalog (unary n c op p) a b x y h k =
    all-so (fair a) (meet (described op).meets (false, x)) (way (described op).copying ((false, x) ∷ []) ∷ []) (λ e. and-both (one_or a x) true h refl)
fair-ways catalog (binary n c union p q) a b x y h k =
    all-so (fair a) ((part_gives x any && part_gives y any) || (part_gives x all && part_gives y all)) (way whole_rows ((false, x) ∷ (false, y) ∷ []) ∷ [])
    (λ e. and-both (one_or a (cond (part_gives y x && true) x any)) true (beside-fair a x y h e) refl)
fair-ways catalog (binary n c (join m on) p q) a b x y h k =
    let w : ℕ = width catalog p in
    all-joined (fair (a && b)) (if_so (routed_alike on x y) (way whole_rows (bare x ∷ []) ∷ way (right_of w) (bare y ∷ []) ∷ []))
    (if_so (part_gives y all) (way (left_of w) ((false, x) ∷ []) ∷ []) ++ if_so (part_gives x all) (way (right_of w) ((false, y) ∷ []) ∷ []))
    (all-so (fair (a && b)) (routed_alike on x y) (way whole_rows (bare x ∷ []) ∷ way (right_of w) (bare y ∷ []) ∷ []) (alike-fair on a b w x y h))
    (all-joined (fair (a && b)) (if_so (part_gives y all) (way (left_of w) ((false, x) ∷ []) ∷ [])) (if_so (part_gives x all) (way (right_of w) ((false, y) ∷ []) ∷ []))
    (all-so (fair (a && b)) (part_gives y all) (way (left_of w) ((false, x) ∷ []) ∷ [])
    (λ e. let t : (a && b) ≡ a = ap (λ v. a && v) (all-kind b y k e) ∙ and-true a in rw t (and-both (one_or a x) true h refl)))
    (all-so (fair (a && b)) (part_gives x all) (way (right_of w) ((false, y) ∷ []) ∷ [])
    (λ e. let t : (a && b) ≡ b = ap (λ v. v && b) (all-kind a x h e) in rw t (and-both (one_or b y) true k refl))))
fair-ways catalog (binary n c (semi_join matched on conditions) p q) a b x y h k =
    all-joined (fair a) (if_so (routed_alike on x y) (way whole_rows (bare x ∷ []) ∷ [])) (if_so (part_gives y all) (way whole_rows ((false, x) ∷ []) ∷ []))
    (all-so (fair a) (routed_alike on x y) (way whole_rows (bare x ∷ []) ∷ []) (λ e. and-both (one_or a x) true h refl))
    (all-so (fair a) (part_gives y all) (way whole_rows ((false, x) ∷ []) ∷ []) (λ e. and-both (one_or a x) true h refl))
fair-ways catalog (exchange n c kind m p) a b x y h k = and-both (one_or (part_gives (kind_part kind) all) (kind_part kind)) true (kind-fair kind) refl

-- ---- what ways give

plain-each : (fs : List (Bool × Part)) (q : Part) → list_all (λ f. not f.0) fs ≡ true → list_all (λ f. input_has f q) fs ≡ true → list_all (λ f. part_gives f.1 q) fs ≡ true
plain-each [] q h k = refl
plain-each (f ∷ fs) q h k =
    and-both (part_gives f.1 q) (list_all (λ g. part_gives g.1 q) fs) (has f.0 (and-left (not f.0) (list_all (λ g. not g.0) fs) h) (and-left (input_has f q) (list_all (λ g. input_has g q) fs) k))
    (plain-each fs q (and-right (not f.0) (list_all (λ g. not g.0) fs) h) (and-right (input_has f q) (list_all (λ g. input_has g q) fs) k))
  where
    has : (b : Bool) → not b ≡ true → (b || part_gives f.1 q) ≡ true → part_gives f.1 q ≡ true
    has true i l = cc
    has false i l = l

-- what each input has, their common part gives
common-gives : (from : List (Bool × Part)) (q : Part) → (is_some_list from && list_all (λ f. not f.0) from) ≡ true → each_has from q ≡ true → part_gives (common_part from) q ≡ true
common-gives [] q h k = cc
common-gives (f ∷ fs) q h k = by (list_all (λ g. part_gives g.1 f.1) fs) refl
  where
    first : part_gives f.1 q ≡ true
    first = let e = plain-each (f ∷ fs) q h k in and-left (part_gives f.1 q) (list_all (λ g. part_gives g.1 q) fs) e

    rest : list_all (λ g. part_gives g.1 q) fs ≡ true
    rest = let e = plain-each (f ∷ fs) q h k in and-right (part_gives f.1 q) (list_all (λ g. part_gives g.1 q) fs) e

    by : (t : Bool) → list_all (λ g. part_gives g.1 f.1) fs ≡ t → part_gives (cond t f.1 any) q ≡ true
    by true e = first
    by false e = ⊎_elim (λ is. let all_same : list_all (λ g. part_gives g.1 f.1) fs ≡ true = rw is rest in cc) (λ w. rw w.0 refl) (gives-is f.1 q first)

-- a way gives no more than one of its common part alone
pub way-common : (k : Copying) (from : List (Bool × Part)) (q : Part) → plain (way k from) ≡ true → gives (way k from) q ≡ true → gives (way k ((false, common_part from) ∷ [])) q ≡ true
way-common k from q h = way-more k from ((false, common_part from) ∷ []) (λ x e. and-both (part_gives (common_part from) x) true (common-gives from x h e) refl) q

pub some-is : (o : Option (List ℕ)) (f : List ℕ → Bool) → if_some o f ≡ true → (cs : List ℕ) × (o ≡ Some cs) × (f cs ≡ true)
some-is None f h = cc
some-is (Some cs) f h = (cs, refl, h)

one-alike : (k : Copying) (b : Bool) (c q : Part) → one_or b c ≡ true → gives (way k ((false, c) ∷ [])) q ≡ true → alike b q ≡ true
one-alike k b c one h g = cc
one-alike k b one any h g = cc
one-alike k b any any h g = h
one-alike k b all any h g = cc
one-alike k b (routed r cs) any h g = h
one-alike k b one all h g = cc
one-alike k b any all h g = cc
one-alike k b all all h g = h
one-alike k b (routed r cs) all h g = cc
one-alike k b one (routed s ds) h g = let w = some-is (sources k ds) (λ cs. each_has ((false, one) ∷ []) (routed s cs)) g in let f : false ≡ true = w.2 in cc
one-alike k b any (routed s ds) h g = let w = some-is (sources k ds) (λ cs. each_has ((false, any) ∷ []) (routed s cs)) g in let f : false ≡ true = w.2 in cc
one-alike k b all (routed s ds) h g = let w = some-is (sources k ds) (λ cs. each_has ((false, all) ∷ []) (routed s cs)) g in let f : false ≡ true = w.2 in cc
one-alike k b (routed r cs) (routed s ds) h g = h

-- a part that a fair way gives
way-alike : (b : Bool) (q : Part) (w : Way) → fair b w ≡ true → gives w q ≡ true → alike b q ≡ true
way-alike b q w h g =
    one-alike w.copying b (common_part w.from) q (and-right (plain w) (one_or b (common_part w.from)) h) (way-common w.copying w.from q (and-left (plain w) (one_or b (common_part w.from)) h) g)

routes-alike : (b : Bool) (r : Route) (lists : List (List ℕ)) → not b ≡ true → list_all (alike b) (map (routed r) lists) ≡ true
routes-alike b r [] h = refl
routes-alike b r (cols ∷ lists) h = and-both (not b) (list_all (alike b) (map (routed r) lists)) h (routes-alike b r lists h)

by-alike : (b : Bool) (r : Route) (lists : List (List ℕ)) → not b ≡ true → list_all (alike b) (routed_by r lists) ≡ true
by-alike b r [] h = and-both (not b) true h refl
by-alike b r (cols ∷ lists) h = routes-alike b r (cols ∷ lists) h

up-alike : (k : Copying) (b : Bool) (c : Part) → one_or b c ≡ true → list_all (alike b) (parts_up k c) ≡ true
up-alike k b one h = refl
up-alike k b any h = and-both (not b) true h refl
up-alike k b all h = and-both b true h refl
up-alike k b (routed r cols) h = by-alike b r (copied_lists k cols) h

-- ---- what nodes can claim

all-flat : {X Y : Type 0} (f : Y → Bool) (g : X → List Y) (p : X → Bool) (xs : List X) → ((x : X) → p x ≡ true → list_all f (g x) ≡ true) → list_all p xs ≡ true → list_all f (flat_map g xs) ≡ true
all-flat f g p [] h k = refl
all-flat f g p (x ∷ xs) h k = all-joined f (g x) (flat_map g xs) (h x (and-left (p x) (list_all p xs) k)) (all-flat f g p xs h (and-right (p x) (list_all p xs) k))

among-alike : (catalog : ℕ → Relation) (p : Plan) (a b : Bool) (lefts rights : List Part) → list_all (one_or a) lefts ≡ true → list_all (one_or b) rights ≡ true
    → list_all (alike (replicates p a b)) (parts_among catalog p lefts rights) ≡ true
among-alike catalog p a b lefts rights h k =
    all-flat (alike (replicates p a b)) (λ x. flat_map (parts_over catalog p x) rights) (one_or a) lefts
    (λ x i. all-flat (alike (replicates p a b)) (parts_over catalog p x) (one_or b) rights
    (λ y j. all-flat (alike (replicates p a b)) parts_of_way (fair (replicates p a b)) (ways_from catalog p (false, x) (false, y))
    (λ w e. up-alike w.copying (replicates p a b) (common_part w.from) (and-right (plain w) (one_or (replicates p a b) (common_part w.from)) e))
    (fair-ways catalog p a b x y i j)) k) h

all-with : (f : Part → Bool) (parts qs : List Part) → list_all f parts ≡ true → list_all f qs ≡ true → list_all f (with_parts parts qs) ≡ true
all-with f parts [] h k = h
all-with f parts (q ∷ qs) h k = all-with f (with_part parts q) qs (by (list_any (same_part q) parts)) (and-right (f q) (list_all f qs) k)
  where
    by : (t : Bool) → list_all f (cond t parts (parts ++ q ∷ [])) ≡ true
    by true = h
    by false = all-joined f parts (q ∷ []) h (and-both (f q) true (and-left (f q) (list_all f qs) k) refl)

all-filter : (f g : Part → Bool) (qs : List Part) → list_all f qs ≡ true → list_all f (filter g qs) ≡ true
all-filter f g [] h = refl
all-filter f g (q ∷ qs) h = by (g q) (all-filter f g qs (and-right (f q) (list_all f qs) h))
  where
    by : (t : Bool) → list_all f (filter g qs) ≡ true → list_all f (cond t (q ∷ filter g qs) (filter g qs)) ≡ true
    by true more = and-both (f q) (list_all f (filter g qs)) (and-left (f q) (list_all f qs) h) more
    by false more = more

pub all-telling : (f : Part → Bool) (qs : List Part) → list_all f qs ≡ true → list_all f (most_telling qs) ≡ true
all-telling f qs h = by (list_any is_routed qs)
  where
    by : (t : Bool) → list_all f (cond t (filter is_routed qs) qs) ≡ true
    by true = all-filter f is_routed qs h
    by false = h

all-take : (f : Part → Bool) (n : ℕ) (qs : List Part) → list_all f qs ≡ true → list_all f (take n qs) ≡ true
all-take f zero qs h = refl
all-take f (suc n) [] h = refl
all-take f (suc n) (q ∷ qs) h = and-both (f q) (list_all f (take n qs)) (and-left (f q) (list_all f qs) h) (all-take f n qs (and-right (f q) (list_all f qs) h))

pub parts-alike : (catalog : ℕ → Relation) (p : Plan) (a b : Bool) (lefts rights : List Part) → list_all (one_or a) lefts ≡ true → list_all (one_or b) rights ≡ true
    → list_all (alike (replicates p a b)) (with_parts [] (parts_among catalog p lefts rights)) ≡ true
parts-alike catalog p a b lefts rights h k = all-with (alike (replicates p a b)) [] (parts_among catalog p lefts rights) refl (among-alike catalog p a b lefts rights h k)

given-alike : (catalog : ℕ → Relation) (p : Plan) (a b : Bool) (lefts rights : List Part) (q : Part) → list_all (one_or a) lefts ≡ true → list_all (one_or b) rights ≡ true
    → list_all (alike (replicates p a b)) (part_if_given catalog p q lefts rights) ≡ true
given-alike catalog p a b lefts rights q h k = by (list_any (λ x. list_any (gives_part catalog p q x) rights) lefts) refl
  where
    by : (t : Bool) → list_any (λ x. list_any (gives_part catalog p q x) rights) lefts ≡ t → list_all (alike (replicates p a b)) (cond t (q ∷ []) []) ≡ true
    by true e =
        and-both (alike (replicates p a b) q) true
        (any-both (one_or a) (λ x. list_any (gives_part catalog p q x) rights) lefts h e
        (λ x i l. any-both (one_or b) (gives_part catalog p q x) rights k l
        (λ y j g. any-both (fair (replicates p a b)) (λ w. gives w q) (ways_from catalog p (false, x) (false, y)) (fair-ways catalog p a b x y i j) g
        (way-alike (replicates p a b) q)))) refl
    by false e = refl

told-alike : (catalog : ℕ → Relation) (p : Plan) (a b : Bool) (lefts rights : List Part) (c : Part) → list_all (one_or a) lefts ≡ true → list_all (one_or b) rights ≡ true
    → list_all (alike (replicates p a b)) (told_parts catalog p c lefts rights) ≡ true
told-alike catalog p a b lefts rights one h k = all-telling (alike (replicates p a b)) (with_parts [] (parts_among catalog p lefts rights)) (parts-alike catalog p a b lefts rights h k)
told-alike catalog p a b lefts rights any h k = all-telling (alike (replicates p a b)) (with_parts [] (parts_among catalog p lefts rights)) (parts-alike catalog p a b lefts rights h k)
told-alike catalog p a b lefts rights all h k = given-alike catalog p a b lefts rights all h k
told-alike catalog p a b lefts rights (routed r cols) h k = given-alike catalog p a b lefts rights (routed r cols) h k

above-alike : (catalog : ℕ → Relation) (p : Plan) (a b : Bool) (lefts rights : List Part) → list_all (one_or a) lefts ≡ true → list_all (one_or b) rights ≡ true
    → list_all (one_or (replicates p a b)) (take 64 (parts_above catalog p lefts rights)) ≡ true
above-alike catalog p a b lefts rights h k = all-take (one_or (replicates p a b)) 64 (parts_above catalog p lefts rights) (by (is_one (size p)))
  where
    by : (t : Bool) → list_all (one_or (replicates p a b)) (cond t (one ∷ []) (told_parts catalog p (claim p).part lefts rights)) ≡ true
    by true = refl
    by false =
        all-more (alike (replicates p a b)) (one_or (replicates p a b)) (told_parts catalog p (claim p).part lefts rights) (one-or (replicates p a b))
        (told-alike catalog p a b lefts rights (claim p).part h k)

-- the parts that a node can claim are all of them all, or none is
pub options-alike : (catalog : ℕ → Relation) (p : Plan) → list_all (one_or (replicated p)) (parts_at catalog p) ≡ true
options-alike catalog (scan n c r m z) = above-alike catalog (scan n c r m z) false false no_input no_input refl refl
options-alike catalog (unary n c op p) = above-alike catalog (unary n c op p) (replicated p) false (parts_at catalog p) no_input (options-alike catalog p) refl
options-alike catalog (binary n c op p q) =
    above-alike catalog (binary n c op p q) (replicated p) (replicated q) (parts_at catalog p) (parts_at catalog q) (options-alike catalog p) (options-alike catalog q)
options-alike catalog (exchange n c k m p) = above-alike catalog (exchange n c k m p) false false no_input no_input refl refl
