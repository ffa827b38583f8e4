-- A part that tells another one meets what that one meets, and shows what it shows.
use Rattle.std.proofs.Common.{◌≡◌, ℕ, ◌<◌, ◌==◌, Bool, true, false, ◌&&◌, ◌||◌, ⊎_elim, List, [], ◌∷◌, refl, sym, ap, ◌∙◌, subst, true≢false, eqb-true, Option, Some, None}
use Rattle.std.specs.List.{list_any}
use Rattle.vx_rows_values.proofs.Booleans.{and-left, and-right, and-both}
use Rattle.vx_plan_nodes.specs.Plan.{Route, by_hash, by_range, Part, one, any, all, routed}
use Rattle.vx_plan_nodes.specs.Describe.{Copying, source}
use Rattle.vx_plan_nodes.specs.Phases.{first_columns}
use Rattle.vx_plan_facts.specs.Equal.{Equality}
use Rattle.vx_plan_facts.specs.Determined.{column_in}
use Rattle.vx_plan_facts.specs.Following.{equal_lists}
use Rattle.vx_plan_facts.proofs.Tests.{or-cases, or-left, or-right, all-more, any-more}
use Rattle.vx_plan_facts.proofs.ColumnSets.{any-at}
use Rattle.vx_check_rules.specs.Rules.{numbers_eq, route_eq, part_gives, contains, within, routed_within, has_pair, all_pairs, routed_alike}
use Rattle.vx_check_rules.specs.Derived.{part_matches, within_equally, routed_within_equally, has_pair_equally, all_pairs_equally, routed_alike_equally, stands_for, stand_for, routed_as}
use Rattle.vx_check_shown.specs.PartLaws.{told}
use Rattle.vx_check_keeping.specs.Laws.{IsEquivalence}

-- ---- routes

pub numbers-is : (xs ys : List ℕ) → numbers_eq xs ys ≡ true → xs ≡ ys
numbers-is [] [] h = refl
numbers-is [] (y ∷ ys) h = absurd (true≢false (sym h))
numbers-is (x ∷ xs) [] h = absurd (true≢false (sym h))
numbers-is (x ∷ xs) (y ∷ ys) h =
    let a : x ≡ y = eqb-true x y (and-left (x == y) (numbers_eq xs ys) h) in
    let b : xs ≡ ys = numbers-is xs ys (and-right (x == y) (numbers_eq xs ys) h) in
    cc

pub route-is : (r s : Route) → route_eq r s ≡ true → r ≡ s
route-is (by_hash a) (by_hash b) h = ap by_hash (numbers-is a b h)
route-is (by_hash a) (by_range j) h = absurd (true≢false (sym h))
route-is (by_range i) (by_hash b) h = absurd (true≢false (sym h))
route-is (by_range i) (by_range j) h = ap by_range (eqb-true i j h)

route-joins : (r s t : Route) → route_eq r s ≡ true → route_eq s t ≡ true → route_eq r t ≡ true
route-joins r s t h k = subst (λ x. route_eq r x ≡ true) (route-is s t k) h

-- the same routes either way
route-both : (r s t u : Route) → route_eq r t ≡ true → route_eq s u ≡ true → route_eq t u ≡ true → route_eq r s ≡ true
route-both r s t u h k i =
    let a : r ≡ t = route-is r t h in
    let b : s ≡ u = route-is s u k in
    subst (λ x. route_eq x s ≡ true) (sym a) (subst (λ x. route_eq t x ≡ true) (sym b) i)

module _ (e : Equality) (is : IsEquivalence e) where
  -- ---- lists of columns

  pub numbers-equal : (xs ys : List ℕ) → numbers_eq xs ys ≡ true → equal_lists e xs ys ≡ true
  numbers-equal [] [] h = refl
  numbers-equal [] (y ∷ ys) h = h
  numbers-equal (x ∷ xs) [] h = h
  numbers-equal (x ∷ xs) (y ∷ ys) h =
      and-both (e x y) (equal_lists e xs ys) (subst (λ z. e x z ≡ true) (eqb-true x y (and-left (x == y) (numbers_eq xs ys) h)) (is.same x))
      (numbers-equal xs ys (and-right (x == y) (numbers_eq xs ys) h))

  lists-joins : (xs ys zs : List ℕ) → equal_lists e xs ys ≡ true → equal_lists e ys zs ≡ true → equal_lists e xs zs ≡ true
  lists-joins [] [] zs h k = k
  lists-joins [] (y ∷ ys) zs h k = absurd (true≢false (sym h))
  lists-joins (x ∷ xs) [] zs h k = absurd (true≢false (sym h))
  lists-joins (x ∷ xs) (y ∷ ys) [] h k = absurd (true≢false (sym k))
  lists-joins (x ∷ xs) (y ∷ ys) (z ∷ zs) h k =
      and-both (e x z) (equal_lists e xs zs) (is.joins x y z (and-left (e x y) (equal_lists e xs ys) h) (and-left (e y z) (equal_lists e ys zs) k))
      (lists-joins xs ys zs (and-right (e x y) (equal_lists e xs ys) h) (and-right (e y z) (equal_lists e ys zs) k))

  -- ---- parts

  pub gives-matches : (q : Part) (r : Route) (cols : List ℕ) → part_gives q (routed r cols) ≡ true → part_matches e q (routed r cols) ≡ true
  gives-matches one r cols h = h
  gives-matches any r cols h = h
  gives-matches all r cols h = h
  gives-matches (routed s ds) r cols h =
      and-both (route_eq s r) (equal_lists e ds cols) (and-left (route_eq s r) (numbers_eq ds cols) h) (numbers-equal ds cols (and-right (route_eq s r) (numbers_eq ds cols) h))

  pub told-routed : (q : Part) (r : Route) (cols : List ℕ) → told e q (routed r cols) ≡ true → part_matches e q (routed r cols) ≡ true
  told-routed q r cols h = ⊎_elim (λ l. gives-matches q r cols l) (λ l. l) (or-cases (part_gives q (routed r cols)) (part_matches e q (routed r cols)) h)

  matches-any : (q : Part) → part_matches e q any ≡ false
  matches-any one = refl
  matches-any any = refl
  matches-any all = refl
  matches-any (routed r cols) = refl

  matches-all : (q : Part) → part_matches e q all ≡ false
  matches-all one = refl
  matches-all any = refl
  matches-all all = refl
  matches-all (routed r cols) = refl

  -- what a part tells of one that gives any, or all
  pub told-any : (q x : Part) → told e q x ≡ true → part_gives x any ≡ true → part_gives q any ≡ true
  told-any q one h k = absurd (true≢false (sym k))
  told-any q any h k = ⊎_elim (λ l. l) (λ l. absurd (true≢false (sym l ∙ matches-any q))) (or-cases (part_gives q any) (part_matches e q any) h)
  told-any q all h k = absurd (true≢false (sym k))
  told-any q (routed r cols) h k = by q (told-routed q r cols h)
    where
      by : (q : Part) → part_matches e q (routed r cols) ≡ true → part_gives q any ≡ true
      by one i = i
      by any i = refl
      by all i = i
      by (routed s ds) i = refl

  pub told-all : (q x : Part) → told e q x ≡ true → part_gives x all ≡ true → part_gives q all ≡ true
  told-all q one h k = absurd (true≢false (sym k))
  told-all q any h k = absurd (true≢false (sym k))
  told-all q all h k = ⊎_elim (λ l. l) (λ l. absurd (true≢false (sym l ∙ matches-all q))) (or-cases (part_gives q all) (part_matches e q all) h)
  told-all q (routed r cols) h k = absurd (true≢false (sym k))

  pub matches-joins : (q x y : Part) → part_matches e q x ≡ true → part_matches e x y ≡ true → part_matches e q y ≡ true
  matches-joins one x y h k = absurd (true≢false (sym h))
  matches-joins any x y h k = absurd (true≢false (sym h))
  matches-joins all x y h k = absurd (true≢false (sym h))
  matches-joins (routed r cs) one y h k = absurd (true≢false (sym k))
  matches-joins (routed r cs) any y h k = absurd (true≢false (sym k))
  matches-joins (routed r cs) all y h k = absurd (true≢false (sym k))
  matches-joins (routed r cs) (routed s ds) one h k = k
  matches-joins (routed r cs) (routed s ds) any h k = k
  matches-joins (routed r cs) (routed s ds) all h k = k
  matches-joins (routed r cs) (routed s ds) (routed t fs) h k =
      and-both (route_eq r t) (equal_lists e cs fs) (route-joins r s t (and-left (route_eq r s) (equal_lists e cs ds) h) (and-left (route_eq s t) (equal_lists e ds fs) k))
      (lists-joins cs ds fs (and-right (route_eq r s) (equal_lists e cs ds) h) (and-right (route_eq s t) (equal_lists e ds fs) k))

  -- a part that tells one that matches matches too
  pub told-matches : (q x y : Part) → told e q x ≡ true → part_matches e x y ≡ true → part_matches e q y ≡ true
  told-matches q one y h k = absurd (true≢false (sym k))
  told-matches q any y h k = absurd (true≢false (sym k))
  told-matches q all y h k = absurd (true≢false (sym k))
  told-matches q (routed r cols) y h k = matches-joins q (routed r cols) y (told-routed q r cols h) k

  -- ---- rows that belong together

  within-equal : (cols kept : List ℕ) → within cols kept ≡ true → within_equally e cols kept ≡ true
  within-equal cols kept h =
      all-more (contains kept) (λ c. list_any (e c) kept)
      (λ c k. any-more (λ y. c == y) (e c) (λ y m. subst (λ z. e c z ≡ true) (eqb-true c y m) (is.same c)) kept k) cols h

  within-told : (cs ds kept : List ℕ) → equal_lists e cs ds ≡ true → within_equally e ds kept ≡ true → within_equally e cs kept ≡ true
  within-told [] ds kept h k = refl
  within-told (c ∷ cs) [] kept h k = absurd (true≢false (sym h))
  within-told (c ∷ cs) (d ∷ ds) kept h k =
      and-both (list_any (e c) kept) (within_equally e cs kept)
      (any-more (e d) (e c) (λ x m. is.joins c d x (and-left (e c d) (equal_lists e cs ds) h) m) kept (and-left (list_any (e d) kept) (within_equally e ds kept) k))
      (within-told cs ds kept (and-right (e c d) (equal_lists e cs ds) h) (and-right (list_any (e d) kept) (within_equally e ds kept) k))

  routed-within : (x : Part) (kept : List ℕ) → routed_within x kept ≡ true → routed_within_equally e x kept ≡ true
  routed-within one kept h = h
  routed-within any kept h = h
  routed-within all kept h = h
  routed-within (routed r cols) kept h = within-equal cols kept h

  matched-within : (q : Part) (r : Route) (cols kept : List ℕ) → part_matches e q (routed r cols) ≡ true → within_equally e cols kept ≡ true → routed_within_equally e q kept ≡ true
  matched-within one r cols kept h k = h
  matched-within any r cols kept h k = h
  matched-within all r cols kept h k = h
  matched-within (routed s ds) r cols kept h k = within-told ds cols kept (and-right (route_eq s r) (equal_lists e ds cols) h) k

  told-within : (q x : Part) (kept : List ℕ) → told e q x ≡ true → routed_within_equally e x kept ≡ true → routed_within_equally e q kept ≡ true
  told-within q one kept h k = absurd (true≢false (sym k))
  told-within q any kept h k = absurd (true≢false (sym k))
  told-within q all kept h k = absurd (true≢false (sym k))
  told-within q (routed r cols) kept h k = matched-within q r cols kept (told-routed q r cols h) k

  -- the test of an operator over one input, with one worker or not
  abbrev pub apart_test : Bool → Part → List ℕ → Bool
  apart_test a x cols = (a || ((a || part_gives x all) || routed_within x cols)) || routed_within_equally e x cols

  pub apart-told : (a : Bool) (q x : Part) (cols : List ℕ) → (a ≡ false → told e q x ≡ true) → apart_test a x cols ≡ true → apart_test a q cols ≡ true
  apart-told true q x cols h k = refl
  apart-told false q x cols h k =
      let t = h refl in
      let equally : routed_within_equally e x cols ≡ true → apart_test false q cols ≡ true =
      λ i. or-right (part_gives q all || routed_within q cols) (routed_within_equally e q cols) (told-within q x cols t i) in
      ⊎_elim
      (λ i. ⊎_elim
      (λ j. or-left (part_gives q all || routed_within q cols) (routed_within_equally e q cols) (or-left (part_gives q all) (routed_within q cols) (told-all q x t j)))
      (λ j. equally (routed-within x cols j))
      (or-cases (part_gives x all) (routed_within x cols) i))
      equally
      (or-cases (part_gives x all || routed_within x cols) (routed_within_equally e x cols) k)

  -- ---- columns that stand for others

  -- a copy stands for its column
  pub copy-stands : (w : ℕ) (k : Copying) (g : Equality) → IsEquivalence g → (c x : ℕ) → c < w → source k c ≡ Some x → stands_for w k e g c x ≡ true
  copy-stands w k g also c x l h =
      any-at (λ d. g d c && column_in (λ y. e y x) (source k d)) w c l
      (and-both (g c c) (column_in (λ y. e y x) (source k c)) (also.same c) (subst (λ o. column_in (λ y. e y x) o ≡ true) (sym h) (is.same x)))

  stands-told : (w : ℕ) (k : Copying) (g : Equality) (c x y : ℕ) → e y x ≡ true → stands_for w k e g c x ≡ true → stands_for w k e g c y ≡ true
  stands-told w k g c x y same h =
      any-more (λ d. g d c && column_in (λ z. e z x) (source k d)) (λ d. g d c && column_in (λ z. e z y) (source k d))
      (λ d m. and-both (g d c) (column_in (λ z. e z y) (source k d)) (and-left (g d c) (column_in (λ z. e z x) (source k d)) m)
      (by (source k d) (and-right (g d c) (column_in (λ z. e z x) (source k d)) m))) (first_columns w) h
    where
      by : (o : Option ℕ) → column_in (λ z. e z x) o ≡ true → column_in (λ z. e z y) o ≡ true
      by None i = i
      by (Some z) i = is.joins z x y i (is.swap y x same)

  stand-told : (w : ℕ) (k : Copying) (g : Equality) (cols xs ys : List ℕ) → equal_lists e ys xs ≡ true → stand_for w k e g cols xs ≡ true → stand_for w k e g cols ys ≡ true
  stand-told w k g [] [] [] h i = refl
  stand-told w k g [] [] (y ∷ ys) h i = h
  stand-told w k g [] (x ∷ xs) ys h i = absurd (true≢false (sym i))
  stand-told w k g (c ∷ cols) [] ys h i = absurd (true≢false (sym i))
  stand-told w k g (c ∷ cols) (x ∷ xs) [] h i = absurd (true≢false (sym h))
  stand-told w k g (c ∷ cols) (x ∷ xs) (y ∷ ys) h i =
      and-both (stands_for w k e g c y) (stand_for w k e g cols ys)
      (stands-told w k g c x y (and-left (e y x) (equal_lists e ys xs) h) (and-left (stands_for w k e g c x) (stand_for w k e g cols xs) i))
      (stand-told w k g cols xs ys (and-right (e y x) (equal_lists e ys xs) h) (and-right (stands_for w k e g c x) (stand_for w k e g cols xs) i))

  matched-as : (w : ℕ) (k : Copying) (g : Equality) (q : Part) (r : Route) (xs : List ℕ) (z : Part) → part_matches e q (routed r xs) ≡ true → routed_as w k e g (routed r xs) z ≡ true
      → routed_as w k e g q z ≡ true
  matched-as w k g q r xs one h i = absurd (true≢false (sym i))
  matched-as w k g q r xs any h i = absurd (true≢false (sym i))
  matched-as w k g q r xs all h i = absurd (true≢false (sym i))
  matched-as w k g one r xs (routed s cols) h i = h
  matched-as w k g any r xs (routed s cols) h i = h
  matched-as w k g all r xs (routed s cols) h i = h
  matched-as w k g (routed t ys) r xs (routed s cols) h i =
      and-both (route_eq t s) (stand_for w k e g cols ys) (route-joins t r s (and-left (route_eq t r) (equal_lists e ys xs) h) (and-left (route_eq r s) (stand_for w k e g cols xs) i))
      (stand-told w k g cols xs ys (and-right (route_eq t r) (equal_lists e ys xs) h) (and-right (route_eq r s) (stand_for w k e g cols xs) i))

  -- an output that is routed as a part is routed as one that tells it
  pub as-told : (w : ℕ) (k : Copying) (g : Equality) (q x z : Part) → told e q x ≡ true → routed_as w k e g x z ≡ true → routed_as w k e g q z ≡ true
  as-told w k g q one z h i = absurd (true≢false (sym i))
  as-told w k g q any z h i = absurd (true≢false (sym i))
  as-told w k g q all z h i = absurd (true≢false (sym i))
  as-told w k g q (routed r xs) z h i = matched-as w k g q r xs z (told-routed q r xs h) i

  -- it is routed as a part on the columns that its own are copies of
  pub given-as : (w : ℕ) (k : Copying) (g : Equality) (x : Part) (r : Route) (ds cols : List ℕ) → stand_for w k e g cols ds ≡ true → part_gives x (routed r ds) ≡ true
      → routed_as w k e g x (routed r cols) ≡ true
  given-as w k g one r ds cols h i = i
  given-as w k g any r ds cols h i = i
  given-as w k g all r ds cols h i = i
  given-as w k g (routed s es) r ds cols h i =
      and-both (route_eq s r) (stand_for w k e g cols es) (and-left (route_eq s r) (numbers_eq es ds) i)
      (subst (λ (xs : List ℕ). stand_for w k e g cols xs ≡ true) (sym (numbers-is es ds (and-right (route_eq s r) (numbers_eq es ds) i))) h)

-- ---- both inputs

module _ (e f : Equality) (is : IsEquivalence e) (also : IsEquivalence f) (on : List (ℕ × ℕ)) where
  pair-equal : (a b : ℕ) → has_pair on a b ≡ true → has_pair_equally e f on a b ≡ true
  pair-equal a b h =
      any-more (λ p. (p.0 == a) && (p.1 == b)) (λ p. e a p.0 && f b p.1)
      (λ p m. and-both (e a p.0) (f b p.1)
      (subst (λ z. e z p.0 ≡ true) (eqb-true p.0 a (and-left (p.0 == a) (p.1 == b) m)) (is.same p.0))
      (subst (λ z. f z p.1 ≡ true) (eqb-true p.1 b (and-right (p.0 == a) (p.1 == b) m)) (also.same p.1))) on h

  pairs-equal : (ls rs : List ℕ) → all_pairs on ls rs ≡ true → all_pairs_equally e f on ls rs ≡ true
  pairs-equal [] [] h = refl
  pairs-equal [] (b ∷ bs) h = h
  pairs-equal (a ∷ ls) [] h = h
  pairs-equal (a ∷ ls) (b ∷ rs) h =
      and-both (has_pair_equally e f on a b) (all_pairs_equally e f on ls rs) (pair-equal a b (and-left (has_pair on a b) (all_pairs on ls rs) h))
      (pairs-equal ls rs (and-right (has_pair on a b) (all_pairs on ls rs) h))

  pub alike-equally : (x y : Part) → routed_alike on x y ≡ true → routed_alike_equally e f on x y ≡ true
  alike-equally one y h = h
  alike-equally any y h = h
  alike-equally all y h = h
  alike-equally (routed r ls) one h = h
  alike-equally (routed r ls) any h = h
  alike-equally (routed r ls) all h = h
  alike-equally (routed r ls) (routed s rs) h =
      and-both (route_eq r s) (all_pairs_equally e f on ls rs) (and-left (route_eq r s) (all_pairs on ls rs) h) (pairs-equal ls rs (and-right (route_eq r s) (all_pairs on ls rs) h))

  pairs-told : (cs ls ds rs : List ℕ) → equal_lists e cs ls ≡ true → equal_lists f ds rs ≡ true → all_pairs_equally e f on ls rs ≡ true → all_pairs_equally e f on cs ds ≡ true
  pairs-told [] [] [] [] h k i = refl
  pairs-told [] [] (d ∷ ds) [] h k i = k
  pairs-told [] [] ds (b ∷ rs) h k i = absurd (true≢false (sym i))
  pairs-told [] (a ∷ ls) ds rs h k i = absurd (true≢false (sym h))
  pairs-told (c ∷ cs) [] ds rs h k i = absurd (true≢false (sym h))
  pairs-told (c ∷ cs) (a ∷ ls) ds [] h k i = absurd (true≢false (sym i))
  pairs-told (c ∷ cs) (a ∷ ls) [] (b ∷ rs) h k i = absurd (true≢false (sym k))
  pairs-told (c ∷ cs) (a ∷ ls) (d ∷ ds) (b ∷ rs) h k i =
      and-both (has_pair_equally e f on c d) (all_pairs_equally e f on cs ds)
      (any-more (λ p. e a p.0 && f b p.1) (λ p. e c p.0 && f d p.1)
      (λ p m. and-both (e c p.0) (f d p.1)
      (is.joins c a p.0 (and-left (e c a) (equal_lists e cs ls) h) (and-left (e a p.0) (f b p.1) m))
      (also.joins d b p.1 (and-left (f d b) (equal_lists f ds rs) k) (and-right (e a p.0) (f b p.1) m)))
      on (and-left (has_pair_equally e f on a b) (all_pairs_equally e f on ls rs) i))
      (pairs-told cs ls ds rs (and-right (e c a) (equal_lists e cs ls) h) (and-right (f d b) (equal_lists f ds rs) k)
      (and-right (has_pair_equally e f on a b) (all_pairs_equally e f on ls rs) i))

  matched-alike : (q y : Part) (r s : Route) (ls rs : List ℕ) → part_matches e q (routed r ls) ≡ true → part_matches f y (routed s rs) ≡ true
      → routed_alike_equally e f on (routed r ls) (routed s rs) ≡ true → routed_alike_equally e f on q y ≡ true
  matched-alike one y r s ls rs h k i = h
  matched-alike any y r s ls rs h k i = h
  matched-alike all y r s ls rs h k i = h
  matched-alike (routed t cs) one r s ls rs h k i = k
  matched-alike (routed t cs) any r s ls rs h k i = k
  matched-alike (routed t cs) all r s ls rs h k i = k
  matched-alike (routed t cs) (routed u ds) r s ls rs h k i =
      and-both (route_eq t u) (all_pairs_equally e f on cs ds)
      (route-both t u r s (and-left (route_eq t r) (equal_lists e cs ls) h) (and-left (route_eq u s) (equal_lists f ds rs) k) (and-left (route_eq r s) (all_pairs_equally e f on ls rs) i))
      (pairs-told cs ls ds rs (and-right (route_eq t r) (equal_lists e cs ls) h) (and-right (route_eq u s) (equal_lists f ds rs) k)
      (and-right (route_eq r s) (all_pairs_equally e f on ls rs) i))

  pub alike-told : (q x z y : Part) → told e q x ≡ true → told f z y ≡ true → routed_alike_equally e f on x y ≡ true → routed_alike_equally e f on q z ≡ true
  alike-told q one z y h k i = absurd (true≢false (sym i))
  alike-told q any z y h k i = absurd (true≢false (sym i))
  alike-told q all z y h k i = absurd (true≢false (sym i))
  alike-told q (routed r ls) z one h k i = absurd (true≢false (sym i))
  alike-told q (routed r ls) z any h k i = absurd (true≢false (sym i))
  alike-told q (routed r ls) z all h k i = absurd (true≢false (sym i))
  alike-told q (routed r ls) z (routed s rs) h k i = matched-alike q z r s ls rs (told-routed e is q r ls h) (told-routed f also z s rs k) i
