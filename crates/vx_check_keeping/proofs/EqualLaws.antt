-- Equal columns are equivalent: to themselves, either way, and along.
use Rattle.std.proofs.Common.{◌≡◌, ℕ, ◌+◌, ◌-◌, ◌==◌, nat_lt, nat_le, Bool, true, false, cond, ◌&&◌, ◌||◌, ◌⊎◌, inl, inr, ⊎_elim, List, [], ◌∷◌, Option, Some, None, refl, sym, subst, true≢false, eqb-true, eq-eqb, arith}
use Rattle.std.proofs.lemmas.Bool.Decides.{nat_tests}
use Rattle.vx_rows_values.proofs.Booleans.{and-left, and-right, and-both}
use Rattle.vx_rows_values.specs.Test.{Test, equal, unequal, below, at_most, above, at_least}
use Rattle.vx_plan_nodes.specs.Plan.{Side, column, constant, Condition, Unary, select, project, distinct, sort, group, limit, Binary, union, join, semi_join, scan, unary, binary, exchange}
use Rattle.vx_plan_nodes.specs.Describe.{Copying, source, left_of, right_of, described}
use Rattle.vx_plan_nodes.specs.Types.{width}
use Rattle.vx_plan_facts.specs.Equal.{Equality, each_itself, both_equal, lifted, with_pair, with_test, with_conditions, comparisons, with_pairs, unary_equal, binary_equal, equal_at}
use Rattle.vx_plan_facts.proofs.Tests.{or-cases, or-left, or-right}
use Rattle.vx_check_keeping.specs.Laws.{IsEquivalence, EqualIsEquivalence}

itself : (a : ℕ) → (a == a) ≡ true
itself a = eq-eqb a a refl

each-itself : IsEquivalence each_itself
each-itself = record {
  same = itself;
  swap = λ a b h. eq-eqb b a (sym (eqb-true a b h));
  joins = λ a b c h k. let P : ℕ → Type 0 = λ x. (x == c) ≡ true in subst P (sym (eqb-true a b h)) k;
}

-- ---- copies

both-swap : (e : Equality) → IsEquivalence e → (o u : Option ℕ) → both_equal e o u ≡ true → both_equal e u o ≡ true
both-swap e is (Some a) (Some b) h = is.swap a b h
both-swap e is (Some a) None h = absurd (true≢false (sym h))
both-swap e is None u h = absurd (true≢false (sym h))

both-joins : (e : Equality) → IsEquivalence e → (o u v : Option ℕ) → both_equal e o u ≡ true → both_equal e u v ≡ true → both_equal e o v ≡ true
both-joins e is (Some a) (Some b) (Some c) h k = is.joins a b c h k
both-joins e is (Some a) (Some b) None h k = absurd (true≢false (sym k))
both-joins e is (Some a) None v h k = absurd (true≢false (sym h))
both-joins e is None u v h k = absurd (true≢false (sym h))

lifted-joins : (k : Copying) (e : Equality) → IsEquivalence e → (a b c : ℕ) → lifted k e a b ≡ true → lifted k e b c ≡ true → lifted k e a c ≡ true
lifted-joins k e is a b c h i =
    ⊎_elim
    (λ (l : (a == b) ≡ true). let P : ℕ → Type 0 = λ x. lifted k e x c ≡ true in subst P (sym (eqb-true a b l)) i)
    (λ l. ⊎_elim
    (λ (m : (b == c) ≡ true). let P : ℕ → Type 0 = λ x. lifted k e a x ≡ true in subst P (eqb-true b c m) h)
    (λ m. or-right (a == c) (both_equal e (source k a) (source k c)) (both-joins e is (source k a) (source k b) (source k c) l m))
    (or-cases (b == c) (both_equal e (source k b) (source k c)) i))
    (or-cases (a == b) (both_equal e (source k a) (source k b)) h)

pub lifted-is : (k : Copying) (e : Equality) → IsEquivalence e → IsEquivalence (lifted k e)
lifted-is k e is = record {
  same = λ a. or-left (a == a) (both_equal e (source k a) (source k a)) (itself a);
  swap = λ a b h. ⊎_elim
      (λ l. or-left (b == a) (both_equal e (source k b) (source k a)) (eq-eqb b a (sym (eqb-true a b l))))
      (λ l. or-right (b == a) (both_equal e (source k b) (source k a)) (both-swap e is (source k a) (source k b) l))
      (or-cases (a == b) (both_equal e (source k a) (source k b)) h);
  joins = lifted-joins k e is;
}

-- ---- pairs

-- two columns that are equal by a pair: by themselves, or each to one side of the pair
abbrev pub Paired : ℕ → ℕ → Equality → ℕ → ℕ → Type 0
Paired x y e a b = (e a b ≡ true) ⊎ (((e a x ≡ true) × (e y b ≡ true)) ⊎ ((e a y ≡ true) × (e x b ≡ true)))

paired : (x y : ℕ) (e : Equality) (a b : ℕ) → with_pair x y e a b ≡ true → Paired x y e a b
paired x y e a b h =
    ⊎_elim (λ l. inl l)
    (λ l. inr (⊎_elim (λ m. inl (and-left (e a x) (e y b) m, and-right (e a x) (e y b) m)) (λ m. inr (and-left (e a y) (e x b) m, and-right (e a y) (e x b) m))
    (or-cases (e a x && e y b) (e a y && e x b) l)))
    (or-cases (e a b) ((e a x && e y b) || (e a y && e x b)) h)

module _ (x y : ℕ) (e : Equality) (a b : ℕ) where
  by-old : e a b ≡ true → with_pair x y e a b ≡ true
  by-old h = or-left (e a b) ((e a x && e y b) || (e a y && e x b)) h

  by-one : e a x ≡ true → e y b ≡ true → with_pair x y e a b ≡ true
  by-one h k = or-right (e a b) ((e a x && e y b) || (e a y && e x b)) (or-left (e a x && e y b) (e a y && e x b) (and-both (e a x) (e y b) h k))

  by-other : e a y ≡ true → e x b ≡ true → with_pair x y e a b ≡ true
  by-other h k = or-right (e a b) ((e a x && e y b) || (e a y && e x b)) (or-right (e a x && e y b) (e a y && e x b) (and-both (e a y) (e x b) h k))

module _ (x y : ℕ) (e : Equality) (is : IsEquivalence e) where
  pair-swap : (a b : ℕ) → with_pair x y e a b ≡ true → with_pair x y e b a ≡ true
  pair-swap a b h =
      ⊎_elim (λ l. by-old x y e b a (is.swap a b l))
      (λ l. ⊎_elim (λ m. by-other x y e b a (is.swap y b m.1) (is.swap a x m.0)) (λ m. by-one x y e b a (is.swap x b m.1) (is.swap a y m.0)) l)
      (paired x y e a b h)

  pair-joins : (a b c : ℕ) → with_pair x y e a b ≡ true → with_pair x y e b c ≡ true → with_pair x y e a c ≡ true
  pair-joins a b c h k =
      ⊎_elim
      (λ l. ⊎_elim (λ m. by-old x y e a c (is.joins a b c l m))
      (λ m. ⊎_elim (λ n. by-one x y e a c (is.joins a b x l n.0) n.1) (λ n. by-other x y e a c (is.joins a b y l n.0) n.1) m) second)
      (λ l. ⊎_elim
      (λ i. ⊎_elim (λ m. by-one x y e a c i.0 (is.joins y b c i.1 m))
      (λ m. ⊎_elim (λ n. by-one x y e a c i.0 n.1) (λ n. by-old x y e a c (is.joins a x c i.0 n.1)) m) second)
      (λ i. ⊎_elim (λ m. by-other x y e a c i.0 (is.joins x b c i.1 m))
      (λ m. ⊎_elim (λ n. by-old x y e a c (is.joins a y c i.0 n.1)) (λ n. by-other x y e a c i.0 n.1) m) second)
      l)
      (paired x y e a b h)
    where
      second : Paired x y e b c
      second = paired x y e b c k

  pub pair-is : IsEquivalence (with_pair x y e)
  pair-is = record { same = λ a. by-old x y e a a (is.same a); swap = pair-swap; joins = pair-joins }

test-is : (x : ℕ) (t : Test) (s : Side) (e : Equality) → IsEquivalence e → IsEquivalence (with_test x t s e)
test-is x equal (column y) e is = pair-is x y e is
test-is x equal (constant v) e is = is
test-is x unequal s e is = is
test-is x below s e is = is
test-is x at_most s e is = is
test-is x above s e is = is
test-is x at_least s e is = is

conditions-is : (cs : List Condition) (e : Equality) → IsEquivalence e → IsEquivalence (with_conditions cs e)
conditions-is [] e is = is
conditions-is (c ∷ cs) e is = test-is c.left c.test c.right (with_conditions cs e) (conditions-is cs e is)

pairs-is : (w : ℕ) (on : List (ℕ × ℕ)) (e : Equality) → IsEquivalence e → IsEquivalence (with_pairs w on e)
pairs-is w [] e is = is
pairs-is w (p ∷ on) e is = pair-is p.0 (w + p.1) (with_pairs w on e) (pairs-is w on e is)

-- ---- both inputs

both-is : (e f : Equality) → IsEquivalence e → IsEquivalence f → IsEquivalence (λ a b. e a b && f a b)
both-is e f is also = record {
  same = λ a. and-both (e a a) (f a a) (is.same a) (also.same a);
  swap = λ a b h. and-both (e b a) (f b a) (is.swap a b (and-left (e a b) (f a b) h)) (also.swap a b (and-right (e a b) (f a b) h));
  joins = λ a b c h k.
      and-both (e a c) (f a c) (is.joins a b c (and-left (e a b) (f a b) h) (and-left (e b c) (f b c) k))
      (also.joins a b c (and-right (e a b) (f a b) h) (and-right (e b c) (f b c) k));
}

-- no column is a copy of columns of both
some-left : (e : Equality) (w b : ℕ) (o : Option ℕ) → both_equal e o (source (left_of w) b) ≡ true → nat_lt b w ≡ true
some-left e w b o h = go o (nat_lt b w) h
  where
    go : (o : Option ℕ) (t : Bool) → both_equal e o (cond t (Some b) None) ≡ true → t ≡ true
    go o true h = refl
    go (Some a) false h = h
    go None false h = h

some-right : (e : Equality) (w b : ℕ) (o : Option ℕ) → both_equal e o (source (right_of w) b) ≡ true → nat_le w b ≡ true
some-right e w b o h = go o (nat_le w b) h
  where
    go : (o : Option ℕ) (t : Bool) → both_equal e o (cond t (Some (b - w)) None) ≡ true → t ≡ true
    go o true h = refl
    go (Some a) false h = h
    go None false h = h

not-both : (b w : ℕ) → nat_lt b w ≡ true → nat_le w b ≡ true → ⊥
not-both b w h k = grind (arith, nat_tests)

module _ (w : ℕ) (e f : Equality) (is : IsEquivalence e) (also : IsEquivalence f) where
  abbrev left : Equality
  left a b = lifted (left_of w) e a b

  abbrev right : Equality
  right a b = lifted (right_of w) f a b

  -- the left and then the right input: one of the two steps stays where it is
  left-right : (a b c : ℕ) → left a b ≡ true → right b c ≡ true → (left a c || right a c) ≡ true
  left-right a b c h k =
      ⊎_elim
      (λ (l : (a == b) ≡ true). let P : ℕ → Type 0 = λ x. right x c ≡ true in or-right (left a c) (right a c) (subst P (sym (eqb-true a b l)) k))
      (λ l. ⊎_elim
      (λ (m : (b == c) ≡ true). let P : ℕ → Type 0 = λ x. left a x ≡ true in or-left (left a c) (right a c) (subst P (eqb-true b c m) h))
      (λ m. absurd (not-both b w (some-left e w b (source (left_of w) a) l)
      (some-right f w b (source (right_of w) c) (both-swap f also (source (right_of w) b) (source (right_of w) c) m))))
      (or-cases (b == c) (both_equal f (source (right_of w) b) (source (right_of w) c)) k))
      (or-cases (a == b) (both_equal e (source (left_of w) a) (source (left_of w) b)) h)

  right-left : (a b c : ℕ) → right a b ≡ true → left b c ≡ true → (left a c || right a c) ≡ true
  right-left a b c h k =
      ⊎_elim
      (λ (l : (a == b) ≡ true). let P : ℕ → Type 0 = λ x. left x c ≡ true in or-left (left a c) (right a c) (subst P (sym (eqb-true a b l)) k))
      (λ l. ⊎_elim
      (λ (m : (b == c) ≡ true). let P : ℕ → Type 0 = λ x. right a x ≡ true in or-right (left a c) (right a c) (subst P (eqb-true b c m) h))
      (λ m. absurd (not-both b w (some-left e w b (source (left_of w) c) (both-swap e is (source (left_of w) b) (source (left_of w) c) m))
      (some-right f w b (source (right_of w) a) l)))
      (or-cases (b == c) (both_equal e (source (left_of w) b) (source (left_of w) c)) k))
      (or-cases (a == b) (both_equal f (source (right_of w) a) (source (right_of w) b)) h)

  pub joined-is : IsEquivalence (λ a b. lifted (left_of w) e a b || lifted (right_of w) f a b)
  joined-is =
      let l : IsEquivalence (lifted (left_of w) e) = lifted-is (left_of w) e is in
      let r : IsEquivalence (lifted (right_of w) f) = lifted-is (right_of w) f also in
      record {
        same = λ a. or-left (left a a) (right a a) (l.same a);
        swap = λ a b h. ⊎_elim (λ k. or-left (left b a) (right b a) (l.swap a b k)) (λ k. or-right (left b a) (right b a) (r.swap a b k))
            (or-cases (left a b) (right a b) h);
        joins = λ a b c h k. ⊎_elim
            (λ i. ⊎_elim (λ j. or-left (left a c) (right a c) (l.joins a b c i j)) (λ j. left-right a b c i j) (or-cases (left b c) (right b c) k))
            (λ i. ⊎_elim (λ j. right-left a b c i j) (λ j. or-right (left a c) (right a c) (r.joins a b c i j)) (or-cases (left b c) (right b c) k))
            (or-cases (left a b) (right a b) h);
      }

-- ---- all nodes

unary-is : (op : Unary) (e : Equality) → IsEquivalence e → IsEquivalence (unary_equal op e)
unary-is (select fs) e is = conditions-is (comparisons fs) e is
unary-is (project es) e is = lifted-is (described (project es)).copying e is
unary-is (distinct cols) e is = lifted-is (described (distinct cols)).copying e is
unary-is (sort of_parts order) e is = lifted-is (described (sort of_parts order)).copying e is
unary-is (group phase by aggregates) e is = lifted-is (described (group phase by aggregates)).copying e is
unary-is (limit m) e is = lifted-is (described (limit m)).copying e is

binary-is : (w : ℕ) (op : Binary) (e f : Equality) → IsEquivalence e → IsEquivalence f → IsEquivalence (binary_equal w op e f)
binary-is w union e f is also = both-is e f is also
binary-is w (join m on) e f is also = pairs-is w on (λ a b. lifted (left_of w) e a b || lifted (right_of w) f a b) (joined-is w e f is also)
binary-is w (semi_join matched on conditions) e f is also = is

pub equal-is : EqualIsEquivalence
equal-is catalog (scan n c r m z) = each-itself
equal-is catalog (unary n c op p) = unary-is op (equal_at catalog p) (equal-is catalog p)
equal-is catalog (binary n c op p q) = binary-is (width catalog p) op (equal_at catalog p) (equal_at catalog q) (equal-is catalog p) (equal-is catalog q)
equal-is catalog (exchange n c k m p) = equal-is catalog p
