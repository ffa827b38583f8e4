-- What a node has by its claim and its size.
use Rattle.std.proofs.Common.{⊎_elim, ◌≡◌, ℕ, ◌<◌, ◌≤◌, Bool, true, false, ◌||◌, ◌⊎◌, inl, inr, List, [], ◌∷◌, refl, sym, ap, subst, arith, true≢false, eqb-true, eq-eqb}
use Rattle.std.specs.List.{list_all}
use Rattle.vx_rows_values.specs.Values.{Row, pick}
use Rattle.vx_rows_values.specs.Bags.{total}
use Rattle.vx_plan_nodes.specs.Plan.{Size, one_worker, group_of, Route, by_hash, by_range, Part, one, any, all, routed, is_one, size_eq}
use Rattle.vx_plan_nodes.specs.Streams.{Streams, joined, workers}
use Rattle.vx_plan_nodes.specs.Routes.{Routing}
use Rattle.vx_check_rules.specs.Rules.{numbers_eq, route_eq, part_gives}
use Rattle.vx_check_rules.specs.Claims.{InItsStream, PartOf}
use Rattle.vx_exec_laws.proofs.Bags.{and-left, and-right, and-both, total-joined, across-least}

pub or-cases : (a b : Bool) → (a || b) ≡ true → (a ≡ true) ⊎ (b ≡ true)
or-cases true b e = inl refl
or-cases false b e = inr e

pub numbers_eq-is : (xs ys : List ℕ) → numbers_eq xs ys ≡ true → xs ≡ ys
numbers_eq-is [] [] e = refl
numbers_eq-is [] (y ∷ ys) e = absurd (true≢false (sym e))
numbers_eq-is (x ∷ xs) [] e = absurd (true≢false (sym e))
numbers_eq-is (x ∷ xs) (y ∷ ys) e =
    let a : x ≡ y = eqb-true x y (and-left _ _ e) in
    let b : xs ≡ ys = numbers_eq-is xs ys (and-right _ _ e) in
    cc

pub route_eq-is : (r s : Route) → route_eq r s ≡ true → r ≡ s
route_eq-is (by_hash a) (by_hash b) e = ap by_hash (numbers_eq-is a b e)
route_eq-is (by_hash a) (by_range j) e = absurd (true≢false (sym e))
route_eq-is (by_range i) (by_hash b) e = absurd (true≢false (sym e))
route_eq-is (by_range i) (by_range j) e = ap by_range (eqb-true i j e)

pub size_eq-is : (x y : Size) → size_eq x y ≡ true → x ≡ y
size_eq-is one_worker one_worker e = refl
size_eq-is one_worker (group_of k) e = absurd (true≢false (sym e))
size_eq-is (group_of j) one_worker e = absurd (true≢false (sym e))
size_eq-is (group_of j) (group_of k) e = ap group_of (eqb-true j k e)

pub one-worker : (sizes : ℕ → ℕ) (z : Size) → is_one z ≡ true → workers sizes z ≡ 1
one-worker sizes one_worker e = refl
one-worker sizes (group_of k) e = absurd (true≢false (sym e))

pub some-workers : (sizes : ℕ → ℕ) → ((k : ℕ) → 0 < sizes k) → (z : Size) → 0 < workers sizes z
some-workers sizes h one_worker = omega arith
some-workers sizes h (group_of k) = h k

pub list_all-always : {X : Type 0} (p : X → Bool) → ((x : X) → p x ≡ true) → (xs : List X) → list_all p xs ≡ true
list_all-always p h [] = refl
list_all-always p h (x ∷ xs) = and-both _ _ (h x) (list_all-always p h xs)

pub list_all-weaken : {X : Type 0} (p q : X → Bool) → ((x : X) → p x ≡ true → q x ≡ true) → (xs : List X) → list_all p xs ≡ true → list_all q xs ≡ true
list_all-weaken p q h [] e = refl
list_all-weaken p q h (x ∷ xs) e = and-both _ _ (h x (and-left _ _ e)) (list_all-weaken p q h xs (and-right _ _ e))

abbrev pub InRange : Routing → Type 0
InRange goes = (r : Route) (key : Row) (n : ℕ) → 0 < n → goes r key n < n

module _ (goes : Routing) (law : InRange goes) where
  -- with one worker each part says the same
  pub single-of : (q : Part) (n : ℕ) (s : Streams) (stands : List Row → Type 0) → n ≡ 1 → stands (joined n s) → PartOf goes q n s stands
  single-of one n s stands e h = (e, h)
  single-of any n s stands e h = h
  single-of all n s stands e h = λ w l.
      let P : ℕ → Type 0 = λ m. stands (joined m s) → stands (s w) in
      let zeroth : w ≡ 0 = omega arith in
      subst P (sym e) (λ k. let Q : ℕ → Type 0 = λ i. stands (s i) in subst Q (sym zeroth) k) h
  single-of (routed r cols) n s stands e h = (h, λ w l. list_all-always _ (λ row. eq-eqb _ w (let b = law r (pick cols row) n (omega arith) in omega (arith, b))) (s w))

  pub from_single-of : (q : Part) (n : ℕ) (s : Streams) (stands : List Row → Type 0) → n ≡ 1 → PartOf goes q n s stands → stands (joined n s)
  from_single-of one n s stands e h = h.1
  from_single-of any n s stands e h = h
  from_single-of all n s stands e h =
      let P : ℕ → Type 0 = λ m. stands (joined m s) in
      subst P (sym e) (h 0 (omega arith))
  from_single-of (routed r cols) n s stands e h = h.0

  pub weaker-of : (p q : Part) (n : ℕ) (s : Streams) (stands : List Row → Type 0) → part_gives p q ≡ true → PartOf goes p n s stands → PartOf goes q n s stands
  weaker-of one one n s stands e h = h
  weaker-of one any n s stands e h = absurd (true≢false (sym e))
  weaker-of one all n s stands e h = absurd (true≢false (sym e))
  weaker-of one (routed r cols) n s stands e h = absurd (true≢false (sym e))
  weaker-of any one n s stands e h = absurd (true≢false (sym e))
  weaker-of any any n s stands e h = h
  weaker-of any all n s stands e h = absurd (true≢false (sym e))
  weaker-of any (routed r cols) n s stands e h = absurd (true≢false (sym e))
  weaker-of all one n s stands e h = absurd (true≢false (sym e))
  weaker-of all any n s stands e h = absurd (true≢false (sym e))
  weaker-of all all n s stands e h = h
  weaker-of all (routed r cols) n s stands e h = absurd (true≢false (sym e))
  weaker-of (routed r cols) one n s stands e h = absurd (true≢false (sym e))
  weaker-of (routed r cols) any n s stands e h = h.0
  weaker-of (routed r cols) all n s stands e h = absurd (true≢false (sym e))
  weaker-of (routed r cols) (routed t ds) n s stands e h =
      let a : r ≡ t = route_eq-is r t (and-left _ _ e) in
      let b : cols ≡ ds = numbers_eq-is cols ds (and-right _ _ e) in
      let P : Route → Type 0 = λ x. stands (joined n s) × InItsStream goes x ds n s in
      let Q : List ℕ → Type 0 = λ x. stands (joined n s) × InItsStream goes r x n s in
      subst P a (subst Q b h)

  -- what one worker has, or what a part gives
  pub has-part : (b : Bool) (p q : Part) (n : ℕ) (s : Streams) (stands : List Row → Type 0) → (b ≡ true → n ≡ 1) → (b || part_gives p q) ≡ true → PartOf goes p n s stands → PartOf goes q n s stands
  has-part b p q n s stands single e h = ⊎_elim
      (λ o. single-of q n s stands (single o) (from_single-of p n s stands (single o) h))
      (λ g. weaker-of p q n s stands g h)
      (or-cases b (part_gives p q) e)

-- one stream has no more than any list that stands for the rows
pub stream-most : (goes : Routing) (q : Part) (n : ℕ) (s : Streams) (stands : List Row → Type 0) (f : Row → ℕ) (most : ℕ) → ((xs : List Row) → stands xs → total f xs ≤ most)
    → PartOf goes q n s stands → (w : ℕ) → w < n → total f (s w) ≤ most
stream-most goes q n s stands f most law h w l = shown q h
  where
    together : stands (joined n s) → total f (s w) ≤ most
    together g = let a = law (joined n s) g in let b = total-joined f n s in let c = across-least n (λ i. total f (s i)) w l in omega (arith, a, b, c)

    shown : (q : Part) → PartOf goes q n s stands → total f (s w) ≤ most
    shown one h = together h.1
    shown any h = together h
    shown all h = law (s w) (h w l)
    shown (routed r cols) h = together h.0
