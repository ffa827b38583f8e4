-- The second table's tests of parts ask of no columns but those that are there.
use Rattle.std.proofs.Common.{◌≡◌, ℕ, zero, suc, ◌+◌, ◌<◌, nat_lt, Bool, true, ◌&&◌, ◌||◌, List, [], ◌∷◌, Option, Some, None, refl, ap, ap₂, arith}
use Rattle.std.specs.List.{list_any, list_all}
use Rattle.std.proofs.lemmas.Bool.Decides.{nat_tests}
use Rattle.vx_rows_values.proofs.Booleans.{and-left, and-right}
use Rattle.vx_catalog_relations.specs.Catalog.{all_below}
use Rattle.vx_plan_nodes.specs.Plan.{Part, one, any, all, routed, Unary, select, project, distinct, sort, group, limit, plain, partial, final}
use Rattle.vx_plan_nodes.specs.Types.{part_columns}
use Rattle.vx_plan_nodes.specs.Phases.{columns_from, first_columns}
use Rattle.vx_plan_nodes.specs.Describe.{Copying, source, described}
use Rattle.vx_plan_facts.specs.Equal.{Equality}
use Rattle.vx_plan_facts.specs.Determined.{column_in}
use Rattle.vx_plan_facts.specs.Following.{equal_lists}
use Rattle.vx_plan_facts.specs.Naming.{names_within, pair_within}
use Rattle.vx_plan_facts.specs.Asking.{Reaches}
use Rattle.vx_check_rules.specs.Rules.{route_eq}
use Rattle.vx_check_rules.specs.Behaviour.{input_has}
use Rattle.vx_check_rules.specs.Derived.{part_matches, within_equally, routed_within_equally, has_pair_equally, all_pairs_equally, routed_alike_equally, unary_meets_equally, stands_for, stand_for, routed_as, is_any}
use Rattle.vx_check_rules.specs.DerivedView.{meet_equally, join_part, kept_part}

-- of the first w columns the same ones are equal
abbrev pub SameBelow : ℕ → Equality → Equality → Type 0
SameBelow w e f = (a b : ℕ) → a < w → b < w → e a b ≡ f a b

is-below : (c w : ℕ) → nat_lt c w ≡ true → c < w
is-below c w h = grind (arith, nat_tests)

-- ---- lists

any-same : {X : Type 0} (r p q : X → Bool) → ((x : X) → r x ≡ true → p x ≡ q x) → (xs : List X) → list_all r xs ≡ true → list_any p xs ≡ list_any q xs
any-same r p q h [] k = refl
any-same r p q h (x ∷ xs) k = ap₂ (λ a b. a || b) (h x (and-left (r x) (list_all r xs) k)) (any-same r p q h xs (and-right (r x) (list_all r xs) k))

lists-same : (w : ℕ) (e f : Equality) → SameBelow w e f → (cs ds : List ℕ) → all_below w cs ≡ true → all_below w ds ≡ true → equal_lists e cs ds ≡ equal_lists f cs ds
lists-same w e f h [] [] l m = refl
lists-same w e f h [] (d ∷ ds) l m = refl
lists-same w e f h (c ∷ cs) [] l m = refl
lists-same w e f h (c ∷ cs) (d ∷ ds) l m =
    ap₂ (λ a b. a && b) (h c d (is-below c w (and-left (nat_lt c w) (all_below w cs) l)) (is-below d w (and-left (nat_lt d w) (all_below w ds) m)))
    (lists-same w e f h cs ds (and-right (nat_lt c w) (all_below w cs) l) (and-right (nat_lt d w) (all_below w ds) m))

within-same : (w : ℕ) (e f : Equality) → SameBelow w e f → (cs kept : List ℕ) → all_below w cs ≡ true → all_below w kept ≡ true → within_equally e cs kept ≡ within_equally f cs kept
within-same w e f h [] kept l m = refl
within-same w e f h (c ∷ cs) kept l m =
    let there : c < w = is-below c w (and-left (nat_lt c w) (all_below w cs) l) in
    ap₂ (λ a b. a && b) (any-same (λ d. nat_lt d w) (e c) (f c) (λ d k. h c d there (is-below d w k)) kept m) (within-same w e f h cs kept (and-right (nat_lt c w) (all_below w cs) l) m)

-- ---- parts

-- a part of an input on equal columns
pub matches-same : (w : ℕ) (e f : Equality) → SameBelow w e f → (q x : Part) → all_below w (part_columns q) ≡ true → all_below w (part_columns x) ≡ true → part_matches e q x ≡ part_matches f q x
matches-same w e f h one x l m = refl
matches-same w e f h any x l m = refl
matches-same w e f h all x l m = refl
matches-same w e f h (routed r cols) one l m = refl
matches-same w e f h (routed r cols) any l m = refl
matches-same w e f h (routed r cols) all l m = refl
matches-same w e f h (routed r cols) (routed s ds) l m = ap (λ b. route_eq r s && b) (lists-same w e f h cols ds l m)

routed-same : (w : ℕ) (e f : Equality) → SameBelow w e f → (q : Part) (kept : List ℕ) → all_below w (part_columns q) ≡ true → all_below w kept ≡ true
    → routed_within_equally e q kept ≡ routed_within_equally f q kept
routed-same w e f h one kept l m = refl
routed-same w e f h any kept l m = refl
routed-same w e f h all kept l m = refl
routed-same w e f h (routed r cols) kept l m = within-same w e f h cols kept l m

-- rows that have to meet
pub meets-same : (w : ℕ) (e f : Equality) → SameBelow w e f → (op : Unary) (q : Part) → names_within w op ≡ true → all_below w (part_columns q) ≡ true
    → meet_equally e (described op).meets q ≡ unary_meets_equally f op q
meets-same w e f h (select fs) q n l = refl
meets-same w e f h (project es) q n l = refl
meets-same w e f h (distinct cols) q n l = routed-same w e f h q cols l n
meets-same w e f h (sort of_parts cols) q n l = refl
meets-same w e f h (group plain by aggregates) q n l = routed-same w e f h q by l n
meets-same w e f h (group partial by aggregates) q n l = refl
meets-same w e f h (group final by aggregates) q n l = routed-same w e f h q by l n
meets-same w e f h (limit m) q n l = refl

-- ---- pairs

module _ (v w : ℕ) (e e' f f' : Equality) (left : SameBelow v e e') (right : SameBelow w f f') (on : List (ℕ × ℕ)) (named : list_all (pair_within v w) on ≡ true) where
  pair-same : (a b : ℕ) → a < v → b < w → has_pair_equally e f on a b ≡ has_pair_equally e' f' on a b
  pair-same a b l m =
      any-same (pair_within v w) (λ p. e a p.0 && f b p.1) (λ p. e' a p.0 && f' b p.1)
      (λ p k. ap₂ (λ x y. x && y) (left a p.0 l (is-below p.0 v (and-left (nat_lt p.0 v) (nat_lt p.1 w) k))) (right b p.1 m (is-below p.1 w (and-right (nat_lt p.0 v) (nat_lt p.1 w) k)))) on named

  pairs-same : (as' bs : List ℕ) → all_below v as' ≡ true → all_below w bs ≡ true → all_pairs_equally e f on as' bs ≡ all_pairs_equally e' f' on as' bs
  pairs-same [] [] l m = refl
  pairs-same [] (b ∷ bs) l m = refl
  pairs-same (a ∷ as') [] l m = refl
  pairs-same (a ∷ as') (b ∷ bs) l m =
      ap₂ (λ x y. x && y) (pair-same a b (is-below a v (and-left (nat_lt a v) (all_below v as') l)) (is-below b w (and-left (nat_lt b w) (all_below w bs) m)))
      (pairs-same as' bs (and-right (nat_lt a v) (all_below v as') l) (and-right (nat_lt b w) (all_below w bs) m))

  -- inputs that are routed alike
  pub alike-same : (p q : Part) → all_below v (part_columns p) ≡ true → all_below w (part_columns q) ≡ true → routed_alike_equally e f on p q ≡ routed_alike_equally e' f' on p q
  alike-same one q l m = refl
  alike-same any q l m = refl
  alike-same all q l m = refl
  alike-same (routed r cols) one l m = refl
  alike-same (routed r cols) any l m = refl
  alike-same (routed r cols) all l m = refl
  alike-same (routed r cols) (routed s ds) l m = ap (λ b. route_eq r s && b) (pairs-same cols ds l m)

-- ---- columns that stand for others

from-same : (p q : ℕ → Bool) (i n : ℕ) → ((d : ℕ) → d < i + n → p d ≡ q d) → list_any p (columns_from i n) ≡ list_any q (columns_from i n)
from-same p q i zero h = refl
from-same p q i (suc n) h = ap₂ (λ a b. a || b) (h i (omega arith)) (from-same p q (suc i) n (λ d l. h d (omega (arith, l))))

first-same : (p q : ℕ → Bool) (w : ℕ) → ((d : ℕ) → d < w → p d ≡ q d) → list_any p (first_columns w) ≡ list_any q (first_columns w)
first-same p q w h = from-same p q 0 w (λ d l. h d (omega (arith, l)))

in-same : (o : Option ℕ) (p q : ℕ → Bool) → ((y : ℕ) → o ≡ Some y → p y ≡ q y) → column_in p o ≡ column_in q o
in-same None p q h = refl
in-same (Some y) p q h = h y refl

module _ (v w : ℕ) (k : Copying) (reaches : Reaches w k v) (e e' f f' : Equality) (input : SameBelow v e e') (output : SameBelow w f f') where
  stands-same : (c x : ℕ) → c < w → x < v → stands_for w k e f c x ≡ stands_for w k e' f' c x
  stands-same c x l m =
      first-same (λ d. f d c && column_in (λ y. e y x) (source k d)) (λ d. f' d c && column_in (λ y. e' y x) (source k d)) w
      (λ d n. ap₂ (λ a b. a && b) (output d c n l) (in-same (source k d) (λ y. e y x) (λ y. e' y x) (λ y is. input y x (reaches d y n is) m)))

  stand-same : (cs xs : List ℕ) → all_below w cs ≡ true → all_below v xs ≡ true → stand_for w k e f cs xs ≡ stand_for w k e' f' cs xs
  stand-same [] [] l m = refl
  stand-same [] (x ∷ xs) l m = refl
  stand-same (c ∷ cs) [] l m = refl
  stand-same (c ∷ cs) (x ∷ xs) l m =
      ap₂ (λ a b. a && b) (stands-same c x (is-below c w (and-left (nat_lt c w) (all_below w cs) l)) (is-below x v (and-left (nat_lt x v) (all_below v xs) m)))
      (stand-same cs xs (and-right (nat_lt c w) (all_below w cs) l) (and-right (nat_lt x v) (all_below v xs) m))

  -- a part of an output that is routed as one of an input
  pub routed-as-same : (p x : Part) → all_below v (part_columns p) ≡ true → all_below w (part_columns x) ≡ true → routed_as w k e f p x ≡ routed_as w k e' f' p x
  routed-as-same one x l m = refl
  routed-as-same any x l m = refl
  routed-as-same all x l m = refl
  routed-as-same (routed r xs) one l m = refl
  routed-as-same (routed r xs) any l m = refl
  routed-as-same (routed r xs) all l m = refl
  routed-as-same (routed r xs) (routed s cols) l m = ap (λ b. route_eq r s && b) (stand-same cols xs m l)

-- ---- joins

join-parts : (a a' b b' c c' x h i : Bool) → a ≡ a' → b ≡ b' → c ≡ c'
    → ((x && a) || (((i || a) && b) || ((h || a) && c))) ≡ ((x && a') || (((i || a') && b') || ((h || a') && c')))
join-parts a a' b b' c c' x h i e f g = rw (e, f, g) refl

-- the parts of a join
pub join-same : (u v w : ℕ) (k l : Copying) → Reaches w k u → Reaches w l v → (e e' f f' g g' : Equality) → SameBelow u e e' → SameBelow v f f' → SameBelow w g g'
    → (on : List (ℕ × ℕ)) → list_all (pair_within u v) on ≡ true → (h i : Bool × Part) (x : Part)
    → all_below u (part_columns h.1) ≡ true → all_below v (part_columns i.1) ≡ true → all_below w (part_columns x) ≡ true
    → join_part w k l e f g on h i x ≡ join_part w k l e' f' g' on h i x
join-same u v w k l rk rl e e' f f' g g' se sf sg on named h i x hl il xl =
    join-parts (routed_alike_equally e f on h.1 i.1) _ (routed_as w k e g h.1 x) _ (routed_as w l f g i.1 x) _ (is_any x) (input_has h all) (input_has i all)
    (alike-same u v e e' f f' se sf on named h.1 i.1 hl il) (routed-as-same u w k rk e e' g g' se sg h.1 x hl xl) (routed-as-same v w l rl f f' g g' sf sg i.1 x il xl)

kept-parts : (a a' b b' x i : Bool) → a ≡ a' → b ≡ b' → ((x && a) || ((i || a) && b)) ≡ ((x && a') || ((i || a') && b'))
kept-parts a a' b b' x i e f = rw (e, f) refl

-- the parts of left rows that are kept as they meet right ones
pub kept-same : (u v w : ℕ) (k : Copying) → Reaches w k u → (e e' f f' g g' : Equality) → SameBelow u e e' → SameBelow v f f' → SameBelow w g g'
    → (on : List (ℕ × ℕ)) → list_all (pair_within u v) on ≡ true → (h i : Bool × Part) (x : Part)
    → all_below u (part_columns h.1) ≡ true → all_below v (part_columns i.1) ≡ true → all_below w (part_columns x) ≡ true
    → kept_part w k e f g on h i x ≡ kept_part w k e' f' g' on h i x
kept-same u v w k rk e e' f f' g g' se sf sg on named h i x hl il xl =
    kept-parts (routed_alike_equally e f on h.1 i.1) _ (routed_as w k e g h.1 x) _ (is_any x) (input_has i all) (alike-same u v e e' f f' se sf on named h.1 i.1 hl il)
    (routed-as-same u w k rk e e' g g' se sg h.1 x hl xl)
