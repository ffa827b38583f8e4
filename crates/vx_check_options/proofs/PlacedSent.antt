-- Of the parts among the options of a node either each has each row once, or none has.
use Rattle.std.proofs.Common.{◌≡◌, ℕ, Bool, true, false, cond, not, ◌&&◌, ◌||◌, List, [], ◌∷◌, ◌++◌, map, take, refl, sym, ap, ◌∙◌}
use Rattle.std.specs.List.{list_any, list_all}
use Rattle.std.proofs.lemmas.List.Folds.{list_all-append}
use Rattle.vx_rows_values.proofs.Booleans.{and-left, and-right, and-both}
use Rattle.vx_catalog_relations.specs.Relation.{Relation}
use Rattle.vx_plan_nodes.specs.Plan.{Route, Part, one, any, all, routed, union, join, semi_join, Plan, scan, unary, binary, exchange, claim, size, is_one}
use Rattle.vx_plan_nodes.specs.Parts.{kind_part}
use Rattle.vx_plan_nodes.specs.Types.{width}
use Rattle.vx_plan_nodes.specs.Describe.{Copying, whole_rows, left_of, right_of, described}
use Rattle.vx_check_rules.specs.Rules.{part_gives, routed_alike}
use Rattle.vx_check_rules.specs.Behaviour.{Way, way, if_so, bare, meet, ways_from}
use Rattle.vx_check_rules.proofs.Bools.{or-false}
use Rattle.vx_check_options.specs.Options.{copied_lists, routed_by, parts_up, parts_of_way, same_part, told_parts, parts_at}
use Rattle.vx_check_options.proofs.PlacedParts.{any-at, is_claimed, common_of, lefts_at, rights_at, parts-at-is, passes_over, option-cases, pair-none, none-where, not-so}

-- the part has each row once, or it has not
abbrev pub says : Bool → Part → Bool
says true z = part_gives z any
says false z = not (part_gives z any)

-- all parts of the list say the same
abbrev pub AllSay : List Part → Type 0
AllSay parts = (v : Bool) × (list_all (says v) parts ≡ true)

all-none : {X : Type 0} (test : X → Bool) (xs : List X) → list_all test xs ≡ true → list_any (λ x. not (test x)) xs ≡ true → ⊥
all-none test [] h k = cc
all-none test (x ∷ xs) h k =
    by (test x) (and-left (test x) (list_all test xs) h) (all-none test xs (and-right (test x) (list_all test xs) h)) k
  where
    by : (b : Bool) → b ≡ true → (list_any (λ x. not (test x)) xs ≡ true → ⊥) → (not b || list_any (λ x. not (test x)) xs) ≡ true → ⊥
    by true e more l = more l
    by false e more l = cc

none-all : {X : Type 0} (test : X → Bool) (xs : List X) → (list_any (λ x. not (test x)) xs ≡ true → ⊥) → list_all test xs ≡ true
none-all test [] h = refl
none-all test (x ∷ xs) h = by (test x) h (none-all test xs)
  where
    by : (b : Bool) → ((not b || list_any (λ x. not (test x)) xs) ≡ true → ⊥) → ((list_any (λ x. not (test x)) xs ≡ true → ⊥) → list_all test xs ≡ true) → (b && list_all test xs) ≡ true
    by true f more = more f
    by false f more = absurd (f refl)

-- ---- what is carried up says the same

says-routed : (v : Bool) (r s : Route) (cols ds : List ℕ) → says v (routed r cols) ≡ true → says v (routed s ds) ≡ true
says-routed true r s cols ds h = refl
says-routed false r s cols ds h = cc

says-any : (v : Bool) (r : Route) (cols : List ℕ) → says v (routed r cols) ≡ true → says v any ≡ true
says-any true r cols h = refl
says-any false r cols h = cc

map-says : (v : Bool) (r : Route) (cols : List ℕ) (lists : List (List ℕ)) → says v (routed r cols) ≡ true → list_all (says v) (map (routed r) lists) ≡ true
map-says v r cols [] h = refl
map-says v r cols (ds ∷ lists) h = and-both (says v (routed r ds)) (list_all (says v) (map (routed r) lists)) (says-routed v r r cols ds h) (map-says v r cols lists h)

up-says : (v : Bool) (k : Copying) (z : Part) → says v z ≡ true → list_all (says v) (parts_up k z) ≡ true
up-says v k one h = refl
up-says v k any h = and-both (says v any) true h refl
up-says v k all h = and-both (says v all) true h refl
up-says v k (routed r cols) h = by (copied_lists k cols)
  where
    by : (lists : List (List ℕ)) → list_all (says v) (routed_by r lists) ≡ true
    by [] = and-both (says v any) true (says-any v r cols h) refl
    by (ds ∷ lists) = map-says v r cols (ds ∷ lists) h

abbrev way_says : Bool → Way → Bool
way_says v w = list_all (says v) (parts_of_way w)

one-says : (v b : Bool) (k : Copying) (z : Part) → says v z ≡ true → list_all (way_says v) (if_so b (way k ((false, z) ∷ []) ∷ [])) ≡ true
one-says v true k z h = and-both (list_all (says v) (parts_up k z)) true (up-says v k z h) refl
one-says v false k z h = refl

common-says : (v : Bool) (x y : Part) → says v x ≡ true → ((part_gives x any && part_gives y any) || (part_gives x all && part_gives y all)) ≡ true → says v (common_of x y) ≡ true
common-says v one y h e = cc
common-says v any y h e = by (part_gives y any && true)
  where
    by : (b : Bool) → says v (cond b any any) ≡ true
    by true = h
    by false = h
common-says v all y h e = rw e h
common-says v (routed r cols) y h e = by (part_gives y (routed r cols) && true)
  where
    by : (b : Bool) → says v (cond b (routed r cols) any) ≡ true
    by true = h
    by false = says-any v r cols h

-- only all gives all
all-says : (v : Bool) (z : Part) → part_gives z all ≡ true → says v z ≡ true → v ≡ false
all-says true one h k = cc
all-says true any h k = cc
all-says true all h k = cc
all-says true (routed r cols) h k = cc
all-says false z h k = refl

alike-says : (u v : Bool) (on : List (ℕ × ℕ)) (x y : Part) → routed_alike on x y ≡ true → says u x ≡ true → says v y ≡ true → (u ≡ true) × (v ≡ true)
alike-says u v on one y h k l = cc
alike-says u v on any y h k l = cc
alike-says u v on all y h k l = cc
alike-says u v on (routed r cols) one h k l = cc
alike-says u v on (routed r cols) any h k l = cc
alike-says u v on (routed r cols) all h k l = cc
alike-says true true on (routed r cols) (routed s ds) h k l = (refl, refl)
alike-says false v on (routed r cols) (routed s ds) h k l = cc
alike-says true false on (routed r cols) (routed s ds) h k l = cc

join-says : (u v : Bool) (on : List (ℕ × ℕ)) (w : ℕ) (x y : Part) → says u x ≡ true → says v y ≡ true
    → list_all (way_says (u || v))
    (if_so (routed_alike on x y) (way whole_rows (bare x ∷ []) ∷ way (right_of w) (bare y ∷ []) ∷ [])
    ++ (if_so (part_gives y all) (way (left_of w) ((false, x) ∷ []) ∷ []) ++ if_so (part_gives x all) (way (right_of w) ((false, y) ∷ []) ∷ [])))
    ≡ true
join-says u v on w x y h k =
    list_all-append (way_says (u || v)) (if_so (routed_alike on x y) (way whole_rows (bare x ∷ []) ∷ way (right_of w) (bare y ∷ []) ∷ []))
    (if_so (part_gives y all) (way (left_of w) ((false, x) ∷ []) ∷ []) ++ if_so (part_gives x all) (way (right_of w) ((false, y) ∷ []) ∷ []))
    ∙ and-both _ _ (two (routed_alike on x y) refl)
    (list_all-append (way_says (u || v)) (if_so (part_gives y all) (way (left_of w) ((false, x) ∷ []) ∷ [])) (if_so (part_gives x all) (way (right_of w) ((false, y) ∷ []) ∷ []))
    ∙ and-both _ _ (lefts (part_gives y all) refl) (rights (part_gives x all) refl))
  where
    two : (b : Bool) → routed_alike on x y ≡ b → list_all (way_says (u || v)) (if_so b (way whole_rows (bare x ∷ []) ∷ way (right_of w) (bare y ∷ []) ∷ [])) ≡ true
    two true e =
        let both = alike-says u v on x y e h k in
        let joined : (u || v) ≡ true = ap (λ b. b || v) both.0 in
        let l : says (u || v) x ≡ true = ap (λ b. says b x) (joined ∙ sym both.0) ∙ h in
        let r : says (u || v) y ≡ true = ap (λ b. says b y) (joined ∙ sym both.1) ∙ k in
        and-both (list_all (says (u || v)) (parts_up whole_rows x)) _ (up-says (u || v) whole_rows x l)
        (and-both (list_all (says (u || v)) (parts_up (right_of w) y)) true (up-says (u || v) (right_of w) y r) refl)
    two false e = refl

    lefts : (b : Bool) → part_gives y all ≡ b → list_all (way_says (u || v)) (if_so b (way (left_of w) ((false, x) ∷ []) ∷ [])) ≡ true
    lefts true e =
        let joined : (u || v) ≡ u = ap (λ b. u || b) (all-says v y e k) ∙ or-false u in
        one-says (u || v) true (left_of w) x (ap (λ b. says b x) joined ∙ h)
    lefts false e = refl

    rights : (b : Bool) → part_gives x all ≡ b → list_all (way_says (u || v)) (if_so b (way (right_of w) ((false, y) ∷ []) ∷ [])) ≡ true
    rights true e =
        let joined : (u || v) ≡ v = ap (λ b. b || v) (all-says u x e h) in
        one-says (u || v) true (right_of w) y (ap (λ b. says b y) joined ∙ k)
    rights false e = refl

-- ---- the options of a node

none-claimed : (z : Part) (v : Bool) → is_claimed z ≡ true → not (says v z) ≡ true → v ≡ part_gives z any → ⊥
none-claimed one v c h e = cc
none-claimed any v c h e = cc
none-claimed all true c h e = cc
none-claimed all false c h e = cc
none-claimed (routed r cols) true c h e = cc
none-claimed (routed r cols) false c h e = cc

-- they say the same where the ways over the inputs' options do
says-here : (catalog : ℕ → Relation) (p : Plan) (u v t : Bool) → is_one (size p) ≡ false → list_all (says u) (lefts_at catalog p) ≡ true → list_all (says v) (rights_at catalog p) ≡ true
    → ((x y : Part) → says u x ≡ true → says v y ≡ true → list_all (way_says t) (ways_from catalog p (false, x) (false, y)) ≡ true) → AllSay (parts_at catalog p)
says-here catalog p u v t s hl hr ways = by (is_claimed (claim p).part) refl
  where
    at : (w : Bool) → (is_claimed (claim p).part ≡ false → w ≡ t) → (is_claimed (claim p).part ≡ true → w ≡ part_gives (claim p).part any) → list_all (says w) (parts_at catalog p) ≡ true
    at w over kept =
        none-all (says w) (parts_at catalog p)
        (λ h. option-cases catalog p (λ z. not (says w z)) ⊥ s h
        (λ c k. pair-none (says u) (says v) (passes_over catalog p (λ z. not (says w z))) (lefts_at catalog p) (rights_at catalog p) hl hr
        (λ x y hx hy l.
        none-where (way_says t) (λ a. list_any (λ z. not (says w z)) (parts_of_way a)) (ways_from catalog p (false, x) (false, y)) (ways x y hx hy)
        (λ a g m. all-none (says w) (parts_of_way a) (ap (λ b. list_all (says b) (parts_of_way a)) (over c) ∙ g) m) l) k)
        (λ c m g. none-claimed (claim p).part w c m (kept c)))

    by : (b : Bool) → is_claimed (claim p).part ≡ b → AllSay (parts_at catalog p)
    by true e = (part_gives (claim p).part any, at (part_gives (claim p).part any) (λ c. cc) (λ c. refl))
    by false e = (t, at t (λ c. refl) (λ c. cc))

says-several : (catalog : ℕ → Relation) (p : Plan) → is_one (size p) ≡ false → AllSay (lefts_at catalog p) → AllSay (rights_at catalog p) → AllSay (parts_at catalog p)
says-several catalog (scan n c r true z) s l g = says-here catalog (scan n c r true z) l.0 g.0 true s l.1 g.1 (λ x y hx hy. refl)
says-several catalog (scan n c r false z) s l g = says-here catalog (scan n c r false z) l.0 g.0 false s l.1 g.1 (λ x y hx hy. refl)
says-several catalog (exchange n c k m p) s l g =
    says-here catalog (exchange n c k m p) l.0 g.0 (part_gives (kind_part k) any) s l.1 g.1
    (λ x y hx hy. one-says (part_gives (kind_part k) any) true whole_rows (kind_part k) (own (kind_part k)))
  where
    own : (z : Part) → says (part_gives z any) z ≡ true
    own one = refl
    own any = refl
    own all = refl
    own (routed r cols) = refl
says-several catalog (unary n c op p) s l g =
    says-here catalog (unary n c op p) l.0 g.0 l.0 s l.1 g.1 (λ x y hx hy. one-says l.0 (meet (described op).meets (false, x)) (described op).copying x hx)
says-several catalog (binary n c union p q) s l g =
    says-here catalog (binary n c union p q) l.0 g.0 l.0 s l.1 g.1 (λ x y hx hy. side x y hx ((part_gives x any && part_gives y any) || (part_gives x all && part_gives y all)) refl)
  where
    side : (x y : Part) → says l.0 x ≡ true → (b : Bool) → ((part_gives x any && part_gives y any) || (part_gives x all && part_gives y all)) ≡ b
        → list_all (way_says l.0) (if_so b (way whole_rows ((false, x) ∷ (false, y) ∷ []) ∷ [])) ≡ true
    side x y hx true e = and-both (list_all (says l.0) (parts_up whole_rows (common_of x y))) true (up-says l.0 whole_rows (common_of x y) (common-says l.0 x y hx e)) refl
    side x y hx false e = refl
says-several catalog (binary n c (join m on) p q) s l g =
    says-here catalog (binary n c (join m on) p q) l.0 g.0 (l.0 || g.0) s l.1 g.1 (λ x y hx hy. join-says l.0 g.0 on (width catalog p) x y hx hy)
says-several catalog (binary n c (semi_join matched on conditions) p q) s l g =
    says-here catalog (binary n c (semi_join matched on conditions) p q) l.0 g.0 l.0 s l.1 g.1
    (λ x y hx hy.
    list_all-append (way_says l.0) (if_so (routed_alike on x y) (way whole_rows (bare x ∷ []) ∷ [])) (if_so (part_gives y all) (way whole_rows ((false, x) ∷ []) ∷ []))
    ∙ and-both _ _ (one-says l.0 (routed_alike on x y) whole_rows x hx) (one-says l.0 (part_gives y all) whole_rows x hx))

says-over : (catalog : ℕ → Relation) (p : Plan) → AllSay (lefts_at catalog p) → AllSay (rights_at catalog p) → AllSay (parts_at catalog p)
says-over catalog p l g = by (is_one (size p)) refl
  where
    by : (b : Bool) → is_one (size p) ≡ b → AllSay (parts_at catalog p)
    by false s = says-several catalog p s l g
    by true s = (
      false,
      ap (list_all (says false)) (parts-at-is catalog p)
          ∙ ap (λ b. list_all (says false) (take 64 (cond b (one ∷ []) (told_parts catalog p (claim p).part (lefts_at catalog p) (rights_at catalog p))))) s,
    )

pub all-say : (catalog : ℕ → Relation) (p : Plan) → AllSay (parts_at catalog p)
all-say catalog (scan n c r m z) = says-over catalog (scan n c r m z) (true, refl) (true, refl)
all-say catalog (unary n c op p) = says-over catalog (unary n c op p) (all-say catalog p) (true, refl)
all-say catalog (binary n c op p q) = says-over catalog (binary n c op p q) (all-say catalog p) (all-say catalog q)
all-say catalog (exchange n c k m p) = says-over catalog (exchange n c k m p) (true, refl) (true, refl)

-- so each has each row once where one has
pub each-says : (parts : List Part) (x : Part) → AllSay parts → list_any (same_part x) parts ≡ true → part_gives x any ≡ list_any (λ z. part_gives z any) parts
each-says parts x a h = by a.0 a.1
  where
    at : (v : Bool) → list_all (says v) parts ≡ true → says v x ≡ true
    at v g = so (says v x) refl
      where
        so : (b : Bool) → says v x ≡ b → says v x ≡ true
        so true e = e
        so false e = absurd (all-none (says v) parts g (any-at (λ z. not (says v z)) x parts h (ap not e)))

    by : (v : Bool) → list_all (says v) parts ≡ true → part_gives x any ≡ list_any (λ z. part_gives z any) parts
    by true g =
        let here : part_gives x any ≡ true = at true g in
        here ∙ sym (any-at (λ z. part_gives z any) x parts h here)
    by false g =
        let none : list_any (λ z. part_gives z any) parts ≡ false =
        not-so _ (λ k. none-where (says false) (λ z. part_gives z any) parts g (λ z s t. let no : not (part_gives z any) ≡ false = ap not t in cc) k) in
        let here : part_gives x any ≡ false = not-so (part_gives x any) (λ t. let some : list_any (λ z. part_gives z any) parts ≡ true = any-at (λ z. part_gives z any) x parts h t in cc) in
        here ∙ sym none
