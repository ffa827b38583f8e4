-- What nodes carry of what is known of their inputs' columns.
use Rattle.std.proofs.Common.{◌≡◌, ℕ, ◌+◌, ◌<◌, ◌==◌, Bool, true, ◌&&◌, ◌||◌, List, [], ◌∷◌, sym, subst, Option, Some}
use Rattle.vx_rows_values.specs.Test.{Test, equal, unequal, below, at_most, above, at_least}
use Rattle.vx_rows_values.specs.declared.order.OrderEntry.{OrderEntry}
use Rattle.vx_catalog_relations.specs.Relation.{Relation}
use Rattle.vx_plan_nodes.specs.Plan.{Claim, claim, Side, column, constant, Condition, Unary, select, project, distinct, sort, group, limit, JoinMethod, join, semi_join, ExchangeKind, Plan, unary, binary, exchange}
use Rattle.vx_plan_nodes.specs.Types.{width, well_formed}
use Rattle.vx_plan_nodes.specs.Describe.{Copying, whole_rows, source, left_of, right_of, described}
use Rattle.vx_plan_facts.specs.Equal.{Equality, both_equal, lifted, with_test, with_conditions, comparisons, with_pairs, unary_equal, equal_at}
use Rattle.vx_plan_facts.specs.Fixed.{fixed_at}
use Rattle.vx_plan_facts.specs.Naming.{names_within}
use Rattle.vx_plan_facts.specs.Determined.{Columns, column_in, sources_in, by_input, by_rows, by_inputs, determined}
use Rattle.vx_plan_facts.proofs.Least.{least-sets}
use Rattle.vx_plan_facts.proofs.Tests.{or-left, or-right}
use Rattle.vx_check_keeping.proofs.EqualLaws.{equal-is}
use Rattle.vx_check_keeping.proofs.NodeFacts.{closes-at, unary-reaches, left-reaches, whole-reaches}
use Rattle.vx_check_keeping.proofs.FrontCopies.{Carries}

-- ---- equal columns

lifted-carried : (k : Copying) (e : Equality) (c d x y : ℕ) → source k c ≡ Some x → source k d ≡ Some y → e x y ≡ true → lifted k e c d ≡ true
lifted-carried k e c d x y h i same =
    or-right (c == d) (both_equal e (source k c) (source k d))
    (subst (λ (o : Option ℕ). both_equal e o (source k d) ≡ true) (sym h) (subst (λ (o : Option ℕ). both_equal e (Some x) o ≡ true) (sym i) same))

test-more : (x : ℕ) (t : Test) (s : Side) (e : Equality) (a b : ℕ) → e a b ≡ true → with_test x t s e a b ≡ true
test-more x equal (column y) e a b h = or-left (e a b) ((e a x && e y b) || (e a y && e x b)) h
test-more x equal (constant v) e a b h = h
test-more x unequal s e a b h = h
test-more x below s e a b h = h
test-more x at_most s e a b h = h
test-more x above s e a b h = h
test-more x at_least s e a b h = h

conditions-more : (cs : List Condition) (e : Equality) (a b : ℕ) → e a b ≡ true → with_conditions cs e a b ≡ true
conditions-more [] e a b h = h
conditions-more (c ∷ cs) e a b h = test-more c.left c.test c.right (with_conditions cs e) a b (conditions-more cs e a b h)

pairs-more : (w : ℕ) (on : List (ℕ × ℕ)) (e : Equality) (a b : ℕ) → e a b ≡ true → with_pairs w on e a b ≡ true
pairs-more w [] e a b h = h
pairs-more w (p ∷ on) e a b h =
    let old : Equality = with_pairs w on e in
    or-left (old a b) ((old a p.0 && old (w + p.1) b) || (old a (w + p.1) && old p.0 b)) (pairs-more w on e a b h)

whole-is : (c x : ℕ) → source whole_rows c ≡ Some x → c ≡ x
whole-is c x h = cc

unary-carried : (op : Unary) (e : Equality) (c d x y : ℕ) → source (described op).copying c ≡ Some x → source (described op).copying d ≡ Some y → e x y ≡ true → unary_equal op e c d ≡ true
unary-carried (select fs) e c d x y h i same =
    let l : x ≡ c = sym (whole-is c x h) in
    let m : y ≡ d = sym (whole-is d y i) in
    conditions-more (comparisons fs) e c d (subst (λ (z : ℕ). e z d ≡ true) l (subst (λ (z : ℕ). e x z ≡ true) m same))
unary-carried (project es) e c d x y h i same = lifted-carried (described (project es)).copying e c d x y h i same
unary-carried (distinct cols) e c d x y h i same = lifted-carried (described (distinct cols)).copying e c d x y h i same
unary-carried (sort of_parts cols) e c d x y h i same = lifted-carried (described (sort of_parts cols)).copying e c d x y h i same
unary-carried (group phase by aggregates) e c d x y h i same = lifted-carried (described (group phase by aggregates)).copying e c d x y h i same
unary-carried (limit m) e c d x y h i same = lifted-carried (described (limit m)).copying e c d x y h i same

-- ---- nodes

column-is : (s : Columns) (o : Option ℕ) (x : ℕ) → o ≡ Some x → s x ≡ true → column_in s o ≡ true
column-is s o x h i = subst (λ (u : Option ℕ). column_in s u ≡ true) (sym h) i

-- what the inputs add is determined
added : (catalog : ℕ → Relation) (p : Plan) → well_formed catalog p ≡ true → (s : Columns) (c : ℕ) → c < width catalog p → by_inputs catalog p (determined catalog p s) c ≡ true → determined catalog p s c ≡ true
added catalog p formed s c l h =
    (least-sets catalog p formed s).closed c l
    (or-right (by_rows (width catalog p) (equal_at catalog p) (fixed_at catalog p) (claim p).keys (determined catalog p s) c) (by_inputs catalog p (determined catalog p s) c) h)

pub unary-carries : (catalog : ℕ → Relation) (n : ℕ) (c : Claim) (op : Unary) (p : Plan) → well_formed catalog (unary n c op p) ≡ true → well_formed catalog p ≡ true
    → names_within (width catalog p) op ≡ true
    → Carries (width catalog (unary n c op p)) (width catalog p) (described op).copying (equal_at catalog p) (equal_at catalog (unary n c op p)) (determined catalog p) (determined catalog (unary n c op p))
unary-carries catalog n c op p formed under names = record {
  reaches = unary-reaches (width catalog p) op names;
  equal = unary-carried op (equal_at catalog p);
  more = λ s d x l h i. added catalog (unary n c op p) formed s d l
      (column-is (determined catalog p (sources_in (width catalog (unary n c op p)) (described op).copying (determined catalog (unary n c op p) s))) (source (described op).copying d) x h i);
  closes = closes-at catalog p under;
  above = closes-at catalog (unary n c op p) formed;
  under_is = equal-is catalog p;
  is = equal-is catalog (unary n c op p);
}

pub left-carries : (catalog : ℕ → Relation) (n : ℕ) (c : Claim) (m : JoinMethod) (on : List (ℕ × ℕ)) (p q : Plan) → well_formed catalog (binary n c (join m on) p q) ≡ true → well_formed catalog p ≡ true
    → Carries (width catalog (binary n c (join m on) p q)) (width catalog p) (left_of (width catalog p)) (equal_at catalog p) (equal_at catalog (binary n c (join m on) p q))
    (determined catalog p) (determined catalog (binary n c (join m on) p q))
left-carries catalog n c m on p q formed under =
    let v : ℕ = width catalog p in
    let u : ℕ = width catalog q in
    let x : Plan = binary n c (join m on) p q in
    record {
      reaches = left-reaches v u;
      equal = λ a b i j h k same.
          pairs-more v on (λ y z. lifted (left_of v) (equal_at catalog p) y z || lifted (right_of v) (equal_at catalog q) y z) a b
          (or-left (lifted (left_of v) (equal_at catalog p) a b) (lifted (right_of v) (equal_at catalog q) a b) (lifted-carried (left_of v) (equal_at catalog p) a b i j h k same));
      more = λ s d y l h i. added catalog x formed s d l
          (or-left (by_input (v + u) (left_of v) (determined catalog p) (determined catalog x s) d) (by_input (v + u) (right_of v) (determined catalog q) (determined catalog x s) d)
          (column-is (determined catalog p (sources_in (v + u) (left_of v) (determined catalog x s))) (source (left_of v) d) y h i));
      closes = closes-at catalog p under;
      above = closes-at catalog x formed;
      under_is = equal-is catalog p;
      is = equal-is catalog x;
    }

pub kept-carries : (catalog : ℕ → Relation) (n : ℕ) (c : Claim) (matched : Bool) (on : List (ℕ × ℕ)) (conditions : List Condition) (p q : Plan)
    → well_formed catalog (binary n c (semi_join matched on conditions) p q) ≡ true → well_formed catalog p ≡ true
    → Carries (width catalog p) (width catalog p) whole_rows (equal_at catalog p) (equal_at catalog p) (determined catalog p) (determined catalog (binary n c (semi_join matched on conditions) p q))
kept-carries catalog n c matched on conditions p q formed under =
    let x : Plan = binary n c (semi_join matched on conditions) p q in
    record {
      reaches = whole-reaches (width catalog p);
      equal = λ a b y z h i same.
          let l : y ≡ a = sym (whole-is a y h) in
          let j : z ≡ b = sym (whole-is b z i) in
          subst (λ (u : ℕ). equal_at catalog p u b ≡ true) l (subst (λ (u : ℕ). equal_at catalog p y u ≡ true) j same);
      more = λ s d y l h i. added catalog x formed s d l (column-is (determined catalog p (sources_in (width catalog p) whole_rows (determined catalog x s))) (Some d) y h i);
      closes = closes-at catalog p under;
      above = closes-at catalog x formed;
      under_is = equal-is catalog p;
      is = equal-is catalog x;
    }

pub passed-carries : (catalog : ℕ → Relation) (n : ℕ) (c : Claim) (k : ExchangeKind) (m : List OrderEntry) (p : Plan) → well_formed catalog (exchange n c k m p) ≡ true → well_formed catalog p ≡ true
    → Carries (width catalog (exchange n c k m p)) (width catalog p) whole_rows (equal_at catalog p) (equal_at catalog (exchange n c k m p)) (determined catalog p) (determined catalog (exchange n c k m p))
passed-carries catalog n c k m p formed under = record {
  reaches = whole-reaches (width catalog p);
  equal = λ a b x y h i same.
      let l : x ≡ a = sym (whole-is a x h) in
      let j : y ≡ b = sym (whole-is b y i) in
      subst (λ (z : ℕ). equal_at catalog p z b ≡ true) l (subst (λ (z : ℕ). equal_at catalog p x z ≡ true) j same);
  more = λ s d x l h i. added catalog (exchange n c k m p) formed s d l
      (column-is (determined catalog p (sources_in (width catalog p) whole_rows (determined catalog (exchange n c k m p) s))) (Some d) x h i);
  closes = closes-at catalog p under;
  above = closes-at catalog (exchange n c k m p) formed;
  under_is = equal-is catalog p;
  is = equal-is catalog (exchange n c k m p);
}
