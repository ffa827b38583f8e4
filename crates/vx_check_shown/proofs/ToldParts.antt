-- The parts that are carried from inputs tell each part that is shown of these.
use Rattle.std.proofs.Common.{◌≡◌, ◌∙◌, ℕ, ◌==◌, Bool, true, false, cond, not, ◌&&◌, ⊎_elim, List, [], ◌∷◌, Option, Some, None, refl, ap, ap₂, sym, subst}
use Rattle.std.specs.List.{list_any, list_all}
use Rattle.std.proofs.lemmas.Bool.{eqb-true}
use Rattle.vx_rows_values.proofs.Booleans.{and-left, and-right, and-both}
use Rattle.vx_catalog_relations.specs.Catalog.{all_below, are_distinct}
use Rattle.vx_plan_nodes.specs.Plan.{Route, by_hash, by_range, Part, one, any, all, routed}
use Rattle.vx_plan_nodes.specs.Types.{part_columns}
use Rattle.vx_plan_nodes.specs.Describe.{Copying, whole_rows}
use Rattle.vx_plan_facts.specs.Equal.{Equality}
use Rattle.vx_plan_facts.specs.Following.{equal_lists}
use Rattle.vx_plan_facts.proofs.Tests.{or-cases, or-left, or-right}
use Rattle.vx_check_rules.specs.Rules.{numbers_eq, route_eq, part_gives, if_some}
use Rattle.vx_check_rules.specs.Behaviour.{sources, routed_at, way, each_has, gives}
use Rattle.vx_check_rules.specs.Derived.{part_matches, stand_for, routed_as}
use Rattle.vx_check_options.proofs.Telling.{route-self}
use Rattle.vx_check_shown.specs.ShownPart.{stand_ins, part_carried, common_columns, routed_in_common, part_of_union, apart, part_apart}
use Rattle.vx_check_shown.specs.PartLaws.{told}
use Rattle.vx_check_shown.proofs.Equivalent.{IsEquivalence}
use Rattle.vx_check_shown.proofs.StandFacts.{Lifts, ins-found, sources-stand, commons-found}
use Rattle.vx_check_shown.proofs.Apart.{apart-is, apart-found}

-- ---- the same numbers and routes

pub numbers-are : (xs ys : List ℕ) → numbers_eq xs ys ≡ true → xs ≡ ys
numbers-are [] [] h = refl
numbers-are [] (y ∷ ys) h = cc
numbers-are (x ∷ xs) [] h = cc
numbers-are (x ∷ xs) (y ∷ ys) h = ap₂ (λ a b. a ∷ b) (eqb-true x y (and-left (x == y) (numbers_eq xs ys) h)) (numbers-are xs ys (and-right (x == y) (numbers_eq xs ys) h))

pub route-is : (r s : Route) → route_eq r s ≡ true → r ≡ s
route-is (by_hash a) (by_hash b) h = ap by_hash (numbers-are a b h)
route-is (by_hash a) (by_range j) h = cc
route-is (by_range i) (by_hash b) h = cc
route-is (by_range i) (by_range j) h = ap by_range (eqb-true i j h)

pub route-both : (r s t : Route) → route_eq r s ≡ true → route_eq r t ≡ true → route_eq s t ≡ true
route-both r s t h k = subst (λ v. route_eq v t ≡ true) (route-is r s h) k

pub route-joins : (r s t : Route) → route_eq r s ≡ true → route_eq s t ≡ true → route_eq r t ≡ true
route-joins r s t h k = subst (λ v. route_eq v t ≡ true) (sym (route-is r s h)) k

-- ---- lists of equal columns

module _ (e : Equality) (is : IsEquivalence e) where
  pub lists-self : (xs : List ℕ) → equal_lists e xs xs ≡ true
  lists-self [] = refl
  lists-self (x ∷ xs) = and-both (e x x) (equal_lists e xs xs) (is.itself x) (lists-self xs)

  pub lists-same : (xs ys : List ℕ) → numbers_eq xs ys ≡ true → equal_lists e xs ys ≡ true
  lists-same xs ys h = subst (λ v. equal_lists e xs v ≡ true) (numbers-are xs ys h) (lists-self xs)

  pub lists-chain : (xs ys zs : List ℕ) → equal_lists e xs ys ≡ true → equal_lists e ys zs ≡ true → equal_lists e xs zs ≡ true
  lists-chain [] [] zs h k = k
  lists-chain [] (y ∷ ys) zs h k = cc
  lists-chain (x ∷ xs) [] zs h k = cc
  lists-chain (x ∷ xs) (y ∷ ys) [] h k = cc
  lists-chain (x ∷ xs) (y ∷ ys) (z ∷ zs) h k =
      and-both (e x z) (equal_lists e xs zs) (is.chain x y z (and-left (e x y) (equal_lists e xs ys) h) (and-left (e y z) (equal_lists e ys zs) k))
      (lists-chain xs ys zs (and-right (e x y) (equal_lists e xs ys) h) (and-right (e y z) (equal_lists e ys zs) k))

  pub lists-swap : (xs ys : List ℕ) → equal_lists e xs ys ≡ true → equal_lists e ys xs ≡ true
  lists-swap [] [] h = refl
  lists-swap [] (y ∷ ys) h = cc
  lists-swap (x ∷ xs) [] h = cc
  lists-swap (x ∷ xs) (y ∷ ys) h =
      and-both (e y x) (equal_lists e ys xs) (is.swap x y (and-left (e x y) (equal_lists e xs ys) h)) (lists-swap xs ys (and-right (e x y) (equal_lists e xs ys) h))

pub lists-within : (g e : Equality) → ((a b : ℕ) → g a b ≡ true → e a b ≡ true) → (xs ys : List ℕ) → equal_lists g xs ys ≡ true → equal_lists e xs ys ≡ true
lists-within g e more [] [] h = refl
lists-within g e more [] (y ∷ ys) h = cc
lists-within g e more (x ∷ xs) [] h = cc
lists-within g e more (x ∷ xs) (y ∷ ys) h =
    and-both (e x y) (equal_lists e xs ys) (more x y (and-left (g x y) (equal_lists g xs ys) h)) (lists-within g e more xs ys (and-right (g x y) (equal_lists g xs ys) h))

-- ---- parts that are told

pub routed-any : (r : Route) (o : Option (List ℕ)) → part_gives (routed_at r o) any ≡ true
routed-any r None = refl
routed-any r (Some cols) = refl

pub told-gives : (g : Equality) (z q : Part) → part_gives z q ≡ true → told g z q ≡ true
told-gives g z q h = or-left (part_gives z q) (part_matches g z q) h

pub told-matches : (g : Equality) (z q : Part) → part_matches g z q ≡ true → told g z q ≡ true
told-matches g z q h = or-right (part_gives z q) (part_matches g z q) h

-- what tells a routed part is routed alike on equal columns
told-routed : (g : Equality) (is : IsEquivalence g) (r s : Route) (cols ds : List ℕ) → told g (routed r cols) (routed s ds) ≡ true → (route_eq r s ≡ true) × (equal_lists g cols ds ≡ true)
told-routed g is r s cols ds h = ⊎_elim
    (λ l. (and-left (route_eq r s) (numbers_eq cols ds) l, lists-same g is cols ds (and-right (route_eq r s) (numbers_eq cols ds) l)))
    (λ m. (and-left (route_eq r s) (equal_lists g cols ds) m, and-right (route_eq r s) (equal_lists g cols ds) m))
    (or-cases (part_gives (routed r cols) (routed s ds)) (part_matches g (routed r cols) (routed s ds)) h)

none-taken : (ds : List ℕ) → list_all (λ d. not (list_any (λ y. d == y) [])) ds ≡ true
none-taken [] = refl
none-taken (d ∷ ds) = none-taken ds

-- what is told is told still where no column is named twice
pub apart-tells : (w : ℕ) (g : Equality) → IsEquivalence g → (z q : Part) → told g z q ≡ true → all_below w (part_columns q) ≡ true → are_distinct (part_columns q) ≡ true
    → told g (part_apart w g z) q ≡ true
apart-tells w g is one q h l u = h
apart-tells w g is any q h l u = h
apart-tells w g is all q h l u = h
apart-tells w g is (routed r cols) one h l u = cc
apart-tells w g is (routed r cols) any h l u = told-gives g (routed_at r (apart w g [] cols)) any (routed-any r (apart w g [] cols))
apart-tells w g is (routed r cols) all h l u = cc
apart-tells w g is (routed r cols) (routed s ds) h l u =
    let t = told-routed g is r s cols ds h in
    let f = apart-found w g is cols ds [] t.1 l u (none-taken ds) in
    let m = apart-is w g is cols [] f.0 f.1 in
    let near = lists-chain g is f.0 cols ds (lists-swap g is cols f.0 (subst (λ v. equal_lists g cols v ≡ true) (sym m.is_made) m.alike)) t.1 in
    subst (λ o. told g (routed_at r o) (routed s ds) ≡ true) (sym f.1)
    (told-matches g (routed r f.0) (routed s ds) (and-both (route_eq r s) (equal_lists g f.0 ds) t.0 near))

-- ---- of one input

module _ (w : ℕ) (k : Copying) (e g : Equality) (is : IsEquivalence e) (out : IsEquivalence g) (lifts : Lifts k e g) where
  pub carried-any : (x : Part) → part_gives x any ≡ true → told g (part_carried w k e x) any ≡ true
  carried-any one h = cc
  carried-any any h = refl
  carried-any all h = cc
  carried-any (routed r cols) h = told-gives g (routed_at r (stand_ins w k e cols)) any (routed-any r (stand_ins w k e cols))

  pub carried-all : (x : Part) → part_gives x all ≡ true → told g (part_carried w k e x) all ≡ true
  carried-all one h = cc
  carried-all any h = cc
  carried-all all h = refl
  carried-all (routed r cols) h = cc

  pub carried-tells : (x q : Part) → routed_as w k e g x q ≡ true → told g (part_carried w k e x) q ≡ true
  carried-tells one q h = cc
  carried-tells any q h = cc
  carried-tells all q h = cc
  carried-tells (routed r xs) one h = cc
  carried-tells (routed r xs) any h = cc
  carried-tells (routed r xs) all h = cc
  carried-tells (routed r xs) (routed s ds) h =
      let f = ins-found w k e is g out lifts ds xs (and-right (route_eq r s) (stand_for w k e g ds xs) h) in
      subst (λ o. told g (routed_at r o) (routed s ds) ≡ true) (sym f.1)
      (told-matches g (routed r f.0) (routed s ds) (and-both (route_eq r s) (equal_lists g f.0 ds) (and-left (route_eq r s) (stand_for w k e g ds xs) h) f.2))

  -- what a way gives is routed as it
  pub gives-as : (x : Part) (s : Route) (ds : List ℕ) → gives (way k ((false, x) ∷ [])) (routed s ds) ≡ true → all_below w ds ≡ true → routed_as w k e g x (routed s ds) ≡ true
  gives-as x s ds h l = go (sources k ds) refl h
    where
      by : (x : Part) (cs : List ℕ) → sources k ds ≡ Some cs → (part_gives x (routed s cs) && true) ≡ true → routed_as w k e g x (routed s ds) ≡ true
      by one cs at h = cc
      by any cs at h = cc
      by all cs at h = cc
      by (routed r xs) cs at h =
          let m = and-left (route_eq r s && numbers_eq xs cs) true h in
          let there : cs ≡ xs = sym (numbers-are xs cs (and-right (route_eq r s) (numbers_eq xs cs) m)) in
          and-both (route_eq r s) (stand_for w k e g ds xs) (and-left (route_eq r s) (numbers_eq xs cs) m)
          (subst (λ v. stand_for w k e g ds v ≡ true) there (sources-stand w k e is g out ds cs at l))

      go : (o : Option (List ℕ)) → sources k ds ≡ o → if_some o (λ cs. part_gives x (routed s cs) && true) ≡ true → routed_as w k e g x (routed s ds) ≡ true
      go None at h = cc
      go (Some cs) at h = by x cs at h

  pub way-tells : (x q : Part) → gives (way k ((false, x) ∷ [])) q ≡ true → all_below w (part_columns q) ≡ true → told g (part_carried w k e x) q ≡ true
  way-tells x one h l = cc
  way-tells x any h l = carried-any x (and-left (part_gives x any) true h)
  way-tells x all h l = carried-all x (and-left (part_gives x all) true h)
  way-tells x (routed s ds) h l = carried-tells x (routed s ds) (gives-as x s ds h l)

-- ---- whole rows

whole-sources : (ds : List ℕ) → sources whole_rows ds ≡ Some ds
whole-sources [] = refl
whole-sources (d ∷ ds) = rw (whole-sources ds) refl

-- a part of whole rows is given as it is
pub whole-gives : (from : List (Bool × Part)) (q : Part) → gives (way whole_rows from) q ≡ true → each_has from q ≡ true
whole-gives from one h = cc
whole-gives from any h = h
whole-gives from all h = h
whole-gives from (routed s ds) h = sym (ap (λ o. if_some o (λ cs. each_has from (routed s cs))) (whole-sources ds)) ∙ h

-- ---- of rows side by side

module _ (w : ℕ) (e f : Equality) (left : IsEquivalence e) (right : IsEquivalence f) where
  abbrev side : Equality
  side a b = e a b && f a b

  pub common-any : (x y : Part) → part_gives (routed_in_common w e f x y) any ≡ true
  common-any one y = refl
  common-any any y = refl
  common-any all y = refl
  common-any (routed r as') one = refl
  common-any (routed r as') any = refl
  common-any (routed r as') all = refl
  common-any (routed r as') (routed s bs) = go (route_eq r s)
    where
      go : (b : Bool) → part_gives (cond b (routed_at r (common_columns w e f as' bs)) any) any ≡ true
      go true = routed-any r (common_columns w e f as' bs)
      go false = refl

  pub union-any : (x y : Part) → part_gives x any ≡ true → told side (part_of_union w e f x y) any ≡ true
  union-any one y h = cc
  union-any any y h = told-gives side (routed_in_common w e f any y) any (common-any any y)
  union-any all y h = cc
  union-any (routed r as') y h = told-gives side (routed_in_common w e f (routed r as') y) any (common-any (routed r as') y)

  pub union-all : (x y : Part) → part_gives x all ≡ true → part_gives y all ≡ true → told side (part_of_union w e f x y) all ≡ true
  union-all one y h k = cc
  union-all any y h k = cc
  union-all all one h k = cc
  union-all all any h k = cc
  union-all all all h k = refl
  union-all all (routed s bs) h k = cc
  union-all (routed r as') y h k = cc

  pub union-tells : (x y q : Part) → part_matches e x q ≡ true → part_matches f y q ≡ true → all_below w (part_columns q) ≡ true → told side (part_of_union w e f x y) q ≡ true
  union-tells one y q h k l = cc
  union-tells any y q h k l = cc
  union-tells all y q h k l = cc
  union-tells (routed r as') y one h k l = cc
  union-tells (routed r as') y any h k l = cc
  union-tells (routed r as') y all h k l = cc
  union-tells (routed r as') one (routed t ds) h k l = cc
  union-tells (routed r as') any (routed t ds) h k l = cc
  union-tells (routed r as') all (routed t ds) h k l = cc
  union-tells (routed r as') (routed s bs) (routed t ds) h k l =
      let rt = and-left (route_eq r t) (equal_lists e as' ds) h in
      let st = and-left (route_eq s t) (equal_lists f bs ds) k in
      let rs : route_eq r s ≡ true = subst (λ v. route_eq r v ≡ true) (route-is r t rt ∙ sym (route-is s t st)) (route-self r) in
      let u = commons-found w e f left right as' bs ds l (and-right (route_eq r t) (equal_lists e as' ds) h) (and-right (route_eq s t) (equal_lists f bs ds) k) in
      subst (λ b. told side (cond b (routed_at r (common_columns w e f as' bs)) any) (routed t ds) ≡ true) (sym rs)
      (subst (λ o. told side (routed_at r o) (routed t ds) ≡ true) (sym u.1)
      (told-matches side (routed r u.0) (routed t ds) (and-both (route_eq r t) (equal_lists side u.0 ds) rt u.2)))

  gives-matches : (d : Equality) → IsEquivalence d → (x : Part) (t : Route) (ds : List ℕ) → part_gives x (routed t ds) ≡ true → part_matches d x (routed t ds) ≡ true
  gives-matches d is one t ds h = cc
  gives-matches d is any t ds h = cc
  gives-matches d is all t ds h = cc
  gives-matches d is (routed r cols) t ds h =
      and-both (route_eq r t) (equal_lists d cols ds) (and-left (route_eq r t) (numbers_eq cols ds) h) (lists-same d is cols ds (and-right (route_eq r t) (numbers_eq cols ds) h))

  pub beside-tells : (x y q : Part) → gives (way whole_rows ((false, x) ∷ (false, y) ∷ [])) q ≡ true → all_below w (part_columns q) ≡ true → told side (part_of_union w e f x y) q ≡ true
  beside-tells x y one h l = cc
  beside-tells x y any h l = union-any x y (and-left (part_gives x any) (part_gives y any && true) h)
  beside-tells x y all h l =
      union-all x y (and-left (part_gives x all) (part_gives y all && true) h) (and-left (part_gives y all) true (and-right (part_gives x all) (part_gives y all && true) h))
  beside-tells x y (routed t ds) h l =
      let u = whole-gives ((false, x) ∷ (false, y) ∷ []) (routed t ds) h in
      union-tells x y (routed t ds) (gives-matches e left x t ds (and-left (part_gives x (routed t ds)) (part_gives y (routed t ds) && true) u))
      (gives-matches f right y t ds (and-left (part_gives y (routed t ds)) true (and-right (part_gives x (routed t ds)) (part_gives y (routed t ds) && true) u))) l
