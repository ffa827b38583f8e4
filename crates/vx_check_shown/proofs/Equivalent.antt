-- Being equal in every row is an equivalence of columns.
use Rattle.std.proofs.Common.{◌≡◌, ◌∙◌, ℕ, ◌+◌, ◌-◌, ◌==◌, nat_lt, nat_le, Bool, true, false, cond, ◌&&◌, ◌||◌, ◌⊎◌, inl, inr, ⊎_elim, List, [], ◌∷◌, Option, Some, None, refl, sym, subst, arith, true≢false, eqb-true, eq-eqb}
use Rattle.std.proofs.lemmas.Bool.Decides.{nat_tests}
use Rattle.vx_rows_values.proofs.Booleans.{and-left, and-right, and-both}
use Rattle.vx_catalog_relations.specs.Relation.{Relation}
use Rattle.vx_plan_nodes.specs.Plan.{column, constant, equal, unequal, below, at_most, above, at_least, Test, Side, Condition, Unary, select, project, distinct, sort, group, limit, Binary, union, join, semi_join, Plan, scan, unary, binary, exchange}
use Rattle.vx_plan_nodes.specs.Types.{width}
use Rattle.vx_plan_nodes.specs.Describe.{Copying, source, left_of, right_of, described}
use Rattle.vx_plan_facts.specs.Equal.{Equality, each_itself, both_equal, lifted, with_pair, with_test, with_conditions, comparisons, with_pairs, unary_equal, binary_equal, equal_at}
use Rattle.vx_plan_facts.proofs.Tests.{or-cases, or-left, or-right}

pub record IsEquivalence (e : Equality) : Type 0 where
  pub itself : (a : ℕ) → e a a ≡ true
  pub swap : (a b : ℕ) → e a b ≡ true → e b a ≡ true
  pub chain : (a b c : ℕ) → e a b ≡ true → e b c ≡ true → e a c ≡ true

same-number : (n : ℕ) → (n == n) ≡ true
same-number n = eq-eqb n n refl

each-itself : IsEquivalence each_itself
each-itself = record {
  itself = same-number;
  swap = λ a b h. eq-eqb b a (sym (eqb-true a b h));
  chain = λ a b c h k. eq-eqb a c (eqb-true a b h ∙ eqb-true b c k);
}

-- ---- a pair more

module _ (x y : ℕ) (e : Equality) (is : IsEquivalence e) where
  -- equal by one of three ways: before, or over the pair, either way round
  abbrev Ways : ℕ → ℕ → Type 0
  Ways a b = (e a b ≡ true) ⊎ (((e a x ≡ true) × (e y b ≡ true)) ⊎ ((e a y ≡ true) × (e x b ≡ true)))

  ways-of : (a b : ℕ) → with_pair x y e a b ≡ true → Ways a b
  ways-of a b h =
      ⊎_elim (λ l. inl l)
      (λ r. inr (⊎_elim (λ l. inl (and-left (e a x) (e y b) l, and-right (e a x) (e y b) l)) (λ m. inr (and-left (e a y) (e x b) m, and-right (e a y) (e x b) m))
      (or-cases (e a x && e y b) (e a y && e x b) r)))
      (or-cases (e a b) ((e a x && e y b) || (e a y && e x b)) h)

  by-way : (a b : ℕ) → Ways a b → with_pair x y e a b ≡ true
  by-way a b (inl h) = or-left (e a b) ((e a x && e y b) || (e a y && e x b)) h
  by-way a b (inr (inl h)) =
      or-right (e a b) ((e a x && e y b) || (e a y && e x b)) (or-left (e a x && e y b) (e a y && e x b) (and-both (e a x) (e y b) h.0 h.1))
  by-way a b (inr (inr h)) =
      or-right (e a b) ((e a x && e y b) || (e a y && e x b)) (or-right (e a x && e y b) (e a y && e x b) (and-both (e a y) (e x b) h.0 h.1))

  turn : (a b : ℕ) → Ways a b → Ways b a
  turn a b (inl h) = inl (is.swap a b h)
  turn a b (inr (inl h)) = inr (inr (is.swap y b h.1, is.swap a x h.0))
  turn a b (inr (inr h)) = inr (inl (is.swap x b h.1, is.swap a y h.0))

  join-ways : (a b c : ℕ) → Ways a b → Ways b c → Ways a c
  join-ways a b c (inl h) (inl k) = inl (is.chain a b c h k)
  join-ways a b c (inl h) (inr (inl k)) = inr (inl (is.chain a b x h k.0, k.1))
  join-ways a b c (inl h) (inr (inr k)) = inr (inr (is.chain a b y h k.0, k.1))
  join-ways a b c (inr (inl h)) (inl k) = inr (inl (h.0, is.chain y b c h.1 k))
  join-ways a b c (inr (inl h)) (inr (inl k)) = inr (inl (h.0, k.1))
  join-ways a b c (inr (inl h)) (inr (inr k)) = inl (is.chain a x c h.0 k.1)
  join-ways a b c (inr (inr h)) (inl k) = inr (inr (h.0, is.chain x b c h.1 k))
  join-ways a b c (inr (inr h)) (inr (inl k)) = inl (is.chain a y c h.0 k.1)
  join-ways a b c (inr (inr h)) (inr (inr k)) = inr (inr (h.0, k.1))

  pair-too : IsEquivalence (with_pair x y e)
  pair-too = record {
    itself = λ a. by-way a a (inl (is.itself a));
    swap = λ a b h. by-way b a (turn a b (ways-of a b h));
    chain = λ a b c h k. by-way a c (join-ways a b c (ways-of a b h) (ways-of b c k));
  }

test-too : (x : ℕ) (t : Test) (s : Side) (e : Equality) → IsEquivalence e → IsEquivalence (with_test x t s e)
test-too x equal (column y) e is = pair-too x y e is
test-too x equal (constant v) e is = is
test-too x unequal s e is = is
test-too x below s e is = is
test-too x at_most s e is = is
test-too x above s e is = is
test-too x at_least s e is = is

conditions-too : (cs : List Condition) (e : Equality) → IsEquivalence e → IsEquivalence (with_conditions cs e)
conditions-too [] e is = is
conditions-too (c ∷ cs) e is = test-too c.left c.test c.right (with_conditions cs e) (conditions-too cs e is)

pairs-too : (w : ℕ) (on : List (ℕ × ℕ)) (e : Equality) → IsEquivalence e → IsEquivalence (with_pairs w on e)
pairs-too w [] e is = is
pairs-too w (p ∷ on) e is = pair-too p.0 (w + p.1) (with_pairs w on e) (pairs-too w on e is)

-- ---- copies

module _ (e : Equality) (is : IsEquivalence e) where
  both-swap : (a b : Option ℕ) → both_equal e a b ≡ true → both_equal e b a ≡ true
  both-swap None b h = absurd (true≢false (sym h))
  both-swap (Some x) None h = absurd (true≢false (sym h))
  both-swap (Some x) (Some y) h = is.swap x y h

  both-chain : (a b c : Option ℕ) → both_equal e a b ≡ true → both_equal e b c ≡ true → both_equal e a c ≡ true
  both-chain None b c h k = absurd (true≢false (sym h))
  both-chain (Some x) None c h k = absurd (true≢false (sym h))
  both-chain (Some x) (Some y) None h k = absurd (true≢false (sym k))
  both-chain (Some x) (Some y) (Some z) h k = is.chain x y z h k

-- equal columns stand for one another in the second of two equalities
stand-in : (e : Equality) (a b c : ℕ) → (a == b) ≡ true → e b c ≡ true → e a c ≡ true
stand-in e a b c h k = let P : ℕ → Type 0 = λ v. e v c ≡ true in subst P (sym (eqb-true a b h)) k

stand-out : (e : Equality) (a b c : ℕ) → e a b ≡ true → (b == c) ≡ true → e a c ≡ true
stand-out e a b c h k = let P : ℕ → Type 0 = λ v. e a v ≡ true in subst P (eqb-true b c k) h

lifted-too : (k : Copying) (e : Equality) → IsEquivalence e → IsEquivalence (lifted k e)
lifted-too k e is = record {
  itself = λ a. or-left (a == a) (both_equal e (source k a) (source k a)) (same-number a);
  swap = λ a b h. ⊎_elim
      (λ l. or-left (b == a) (both_equal e (source k b) (source k a)) (eq-eqb b a (sym (eqb-true a b l))))
      (λ r. or-right (b == a) (both_equal e (source k b) (source k a)) (both-swap e is (source k a) (source k b) r))
      (or-cases (a == b) (both_equal e (source k a) (source k b)) h);
  chain = λ a b c h m. ⊎_elim
      (λ l. stand-in (lifted k e) a b c l m)
      (λ r. ⊎_elim
      (λ l. stand-out (lifted k e) a b c h l)
      (λ t. or-right (a == c) (both_equal e (source k a) (source k c)) (both-chain e is (source k a) (source k b) (source k c) r t))
      (or-cases (b == c) (both_equal e (source k b) (source k c)) m))
      (or-cases (a == b) (both_equal e (source k a) (source k b)) h);
}

both-too : (e f : Equality) → IsEquivalence e → IsEquivalence f → IsEquivalence (λ a b. e a b && f a b)
both-too e f is it = record {
  itself = λ a. and-both (e a a) (f a a) (is.itself a) (it.itself a);
  swap = λ a b h. and-both (e b a) (f b a) (is.swap a b (and-left (e a b) (f a b) h)) (it.swap a b (and-right (e a b) (f a b) h));
  chain = λ a b c h k. and-both (e a c) (f a c) (is.chain a b c (and-left (e a b) (f a b) h) (and-left (e b c) (f b c) k))
      (it.chain a b c (and-right (e a b) (f a b) h) (and-right (e b c) (f b c) k));
}

-- ---- side by side: a column of the left input is none of the right one

no-both : {A : Type 0} (w : ℕ) (e f : Equality) (a b c : ℕ) → both_equal e (source (left_of w) a) (source (left_of w) b) ≡ true
    → both_equal f (source (right_of w) b) (source (right_of w) c) ≡ true → A
no-both {A} w e f a b c h k = go (nat_lt b w) (nat_le w b) (one b w) h k
  where
    one : (x y : ℕ) → (nat_lt x y && nat_le y x) ≡ false
    one x y = grind (arith, nat_tests)

    none : (o : Option ℕ) → both_equal e o None ≡ true → A
    none None h = absurd (true≢false (sym h))
    none (Some x) h = absurd (true≢false (sym h))

    go : (l m : Bool) → (l && m) ≡ false → both_equal e (source (left_of w) a) (cond l (Some b) None) ≡ true
        → both_equal f (cond m (Some (b - w)) None) (source (right_of w) c) ≡ true → A
    go true true both h k = absurd (true≢false both)
    go true false both h k = absurd (true≢false (sym k))
    go false m both h k = none (source (left_of w) a) h

joined-too : (w : ℕ) (e f : Equality) → IsEquivalence e → IsEquivalence f → IsEquivalence (λ a b. lifted (left_of w) e a b || lifted (right_of w) f a b)
joined-too w e f is it =
    let g : Equality = lifted (left_of w) e in
    let h : Equality = lifted (right_of w) f in
    let left : IsEquivalence g = lifted-too (left_of w) e is in
    let right : IsEquivalence h = lifted-too (right_of w) f it in
    let both : Equality = λ a b. g a b || h a b in
    record {
      itself = λ a. or-left (g a a) (h a a) (left.itself a);
      swap = λ a b k. ⊎_elim (λ l. or-left (g b a) (h b a) (left.swap a b l)) (λ r. or-right (g b a) (h b a) (right.swap a b r)) (or-cases (g a b) (h a b) k);
      chain = λ a b c k m. ⊎_elim
          (λ l. ⊎_elim (λ n. or-left (g a c) (h a c) (left.chain a b c l n)) (λ n. mixed w e f a b c l n) (or-cases (g b c) (h b c) m))
          (λ r. ⊎_elim (λ n. mixed-back w e f is it a b c r n) (λ n. or-right (g a c) (h a c) (right.chain a b c r n)) (or-cases (g b c) (h b c) m))
          (or-cases (g a b) (h a b) k);
    }
  where
    mixed : (w : ℕ) (e f : Equality) (a b c : ℕ) → lifted (left_of w) e a b ≡ true → lifted (right_of w) f b c ≡ true
        → (lifted (left_of w) e a c || lifted (right_of w) f a c) ≡ true
    mixed w e f a b c l n = ⊎_elim
        (λ s. stand-in (λ x y. lifted (left_of w) e x y || lifted (right_of w) f x y) a b c s (or-right (lifted (left_of w) e b c) (lifted (right_of w) f b c) n))
        (λ s. ⊎_elim
        (λ t. stand-out (λ x y. lifted (left_of w) e x y || lifted (right_of w) f x y) a b c (or-left (lifted (left_of w) e a b) (lifted (right_of w) f a b) l) t)
        (λ t. no-both w e f a b c s t)
        (or-cases (b == c) (both_equal f (source (right_of w) b) (source (right_of w) c)) n))
        (or-cases (a == b) (both_equal e (source (left_of w) a) (source (left_of w) b)) l)

    mixed-back : (w : ℕ) (e f : Equality) → IsEquivalence e → IsEquivalence f → (a b c : ℕ) → lifted (right_of w) f a b ≡ true → lifted (left_of w) e b c ≡ true
        → (lifted (left_of w) e a c || lifted (right_of w) f a c) ≡ true
    mixed-back w e f is it a b c r n =
        let left = lifted-too (left_of w) e is in
        let right = lifted-too (right_of w) f it in
        let back = mixed w e f c b a (left.swap b c n) (right.swap a b r) in
        ⊎_elim (λ l. or-left (lifted (left_of w) e a c) (lifted (right_of w) f a c) (left.swap c a l))
        (λ s. or-right (lifted (left_of w) e a c) (lifted (right_of w) f a c) (right.swap c a s))
        (or-cases (lifted (left_of w) e c a) (lifted (right_of w) f c a) back)

-- ---- nodes

unary-too : (op : Unary) (e : Equality) → IsEquivalence e → IsEquivalence (unary_equal op e)
unary-too (select fs) e is = conditions-too (comparisons fs) e is
unary-too (project es) e is = lifted-too (described (project es)).copying e is
unary-too (distinct cols) e is = lifted-too (described (distinct cols)).copying e is
unary-too (sort of_parts order) e is = lifted-too (described (sort of_parts order)).copying e is
unary-too (group phase by aggregates) e is = lifted-too (described (group phase by aggregates)).copying e is
unary-too (limit m) e is = lifted-too (described (limit m)).copying e is

binary-too : (w : ℕ) (op : Binary) (e f : Equality) → IsEquivalence e → IsEquivalence f → IsEquivalence (binary_equal w op e f)
binary-too w union e f is it = both-too e f is it
binary-too w (join m on) e f is it = pairs-too w on (λ a b. lifted (left_of w) e a b || lifted (right_of w) f a b) (joined-too w e f is it)
binary-too w (semi_join matched on conditions) e f is it = is

pub equal-equivalence : (catalog : ℕ → Relation) (p : Plan) → IsEquivalence (equal_at catalog p)
equal-equivalence catalog (scan n c r m z) = each-itself
equal-equivalence catalog (unary n c op p) = unary-too op (equal_at catalog p) (equal-equivalence catalog p)
equal-equivalence catalog (binary n c op p q) = binary-too (width catalog p) op (equal_at catalog p) (equal_at catalog q) (equal-equivalence catalog p) (equal-equivalence catalog q)
equal-equivalence catalog (exchange n c k m p) = equal-equivalence catalog p
