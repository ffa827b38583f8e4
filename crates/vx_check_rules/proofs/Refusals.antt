-- Where no test fails at any node, the plan is allowed.
use Rattle.std.proofs.Common.{ap, ap₂, sym, ◌∙◌, ◌≡◌, ℕ, Bool, true, false, cond, ◌&&◌, List, [], ◌∷◌, Option, Some, None, option_map, refl, ◌↔◌}
use Rattle.vx_catalog_relations.specs.Relation.{Relation}
use Rattle.vx_plan_nodes.specs.Plan.{Plan, scan, unary, binary, exchange, number}
use Rattle.vx_check_rules.specs.Rules.{allowed, root_allowed}
use Rattle.vx_check_rules.specs.Derived.{allowed_derived}
use Rattle.vx_check_rules.specs.Refusal.{Rule, first_failure, or_else, refused_at, first_failing, refusal}
use Rattle.vx_check_rules.specs.Tables.{tests_by, root_tests_by, refusal_by, allowed_by, root_allowed_by, TablesDecide}
use Rattle.vx_rows_values.proofs.Booleans.{and-both, and-left, and-right}

-- ---- tests

abbrev pub passed : List (Bool × Rule) → Bool
passed [] = true
passed (t ∷ []) = t.0
passed (t ∷ u ∷ ts) = t.0 && passed (u ∷ ts)

pub none-both : {X : Type 0} (o u : Option X) → or_else o u ≡ None → (o ≡ None) × (u ≡ None)
none-both (Some x) u e = cc
none-both None u e = (refl, e)

pub none-failed : (n : ℕ) (ts : List (Bool × Rule)) → refused_at n ts ≡ None → passed ts ≡ true
none-failed n [] e = refl
none-failed n (t ∷ ts) e = go ts t.0 refl (λ h. none-failed n ts h) e
  where
    go : (us : List (Bool × Rule)) (b : Bool) → t.0 ≡ b → (refused_at n us ≡ None → passed us ≡ true) → option_map {U = ℕ × Rule} (λ r. (n, r)) (cond b (first_failure us) (Some t.1)) ≡ None → passed (t ∷ us) ≡ true
    go [] true k ih h = k
    go (u ∷ us) true k ih h = and-both t.0 (passed (u ∷ us)) k (ih h)
    go us false k ih h = cc

passed-none : (n : ℕ) (ts : List (Bool × Rule)) → passed ts ≡ true → refused_at n ts ≡ None
passed-none n [] e = refl
passed-none n (t ∷ []) e = ap (λ b. option_map {U = ℕ × Rule} (λ r. (n, r)) (cond b None (Some t.1))) e
passed-none n (t ∷ u ∷ ts) e =
    ap (λ b. option_map {U = ℕ × Rule} (λ r. (n, r)) (cond b (first_failure (u ∷ ts)) (Some t.1))) (and-left t.0 (passed (u ∷ ts)) e)
    ∙ passed-none n (u ∷ ts) (and-right t.0 (passed (u ∷ ts)) e)

both-none : {X : Type 0} (o u : Option X) → o ≡ None → u ≡ None → or_else o u ≡ None
both-none (Some x) u e f = cc
both-none None u e f = f

-- ---- nodes

-- the tests pass at every node
abbrev pub all-passed : (Plan → List (Bool × Rule)) → Plan → Bool
all-passed tests (scan n c r m z) = passed (tests (scan n c r m z))
all-passed tests (unary n c op p) = all-passed tests p && passed (tests (unary n c op p))
all-passed tests (binary n c op p q) = all-passed tests p && (all-passed tests q && passed (tests (binary n c op p q)))
all-passed tests (exchange n c k m p) = all-passed tests p && passed (tests (exchange n c k m p))

none-failing : (tests : Plan → List (Bool × Rule)) (p : Plan) → first_failing tests p ≡ None → all-passed tests p ≡ true
none-failing tests (scan n c r m z) e = none-failed n (tests (scan n c r m z)) e
none-failing tests (unary n c op p) e =
    let here = tests (unary n c op p) in
    let w = none-both (first_failing tests p) (refused_at n here) e in
    and-both (all-passed tests p) (passed here) (none-failing tests p w.0) (none-failed n here w.1)
none-failing tests (binary n c op p q) e =
    let here = tests (binary n c op p q) in
    let w = none-both (first_failing tests p) (or_else (first_failing tests q) (refused_at n here)) e in
    let v = none-both (first_failing tests q) (refused_at n here) w.1 in
    and-both (all-passed tests p) (all-passed tests q && passed here) (none-failing tests p w.0) (and-both (all-passed tests q) (passed here) (none-failing tests q v.0) (none-failed n here v.1))
none-failing tests (exchange n c k m p) e =
    let here = tests (exchange n c k m p) in
    let w = none-both (first_failing tests p) (refused_at n here) e in
    and-both (all-passed tests p) (passed here) (none-failing tests p w.0) (none-failed n here w.1)

failing-none : (tests : Plan → List (Bool × Rule)) (p : Plan) → all-passed tests p ≡ true → first_failing tests p ≡ None
failing-none tests (scan n c r m z) e = passed-none n (tests (scan n c r m z)) e
failing-none tests (unary n c op p) e =
    let here = tests (unary n c op p) in
    both-none _ _ (failing-none tests p (and-left (all-passed tests p) (passed here) e)) (passed-none n here (and-right (all-passed tests p) (passed here) e))
failing-none tests (binary n c op p q) e =
    let here = tests (binary n c op p q) in
    let rest = and-right (all-passed tests p) (all-passed tests q && passed here) e in
    both-none _ _ (failing-none tests p (and-left (all-passed tests p) (all-passed tests q && passed here) e))
    (both-none _ _ (failing-none tests q (and-left (all-passed tests q) (passed here) rest)) (passed-none n here (and-right (all-passed tests q) (passed here) rest)))
failing-none tests (exchange n c k m p) e =
    let here = tests (exchange n c k m p) in
    both-none _ _ (failing-none tests p (and-left (all-passed tests p) (passed here) e)) (passed-none n here (and-right (all-passed tests p) (passed here) e))

-- by the first table and by the second one
all-allowed : (catalog : ℕ → Relation) (p : Plan) → all-passed (tests_by false catalog) p ≡ allowed catalog p
all-allowed catalog (scan n c r m z) = refl
all-allowed catalog (unary n c op p) = ap (λ b. b && passed (tests_by false catalog (unary n c op p))) (all-allowed catalog p)
all-allowed catalog (binary n c op p q) = ap₂ (λ a b. a && (b && passed (tests_by false catalog (binary n c op p q)))) (all-allowed catalog p) (all-allowed catalog q)
all-allowed catalog (exchange n c k m p) = ap (λ b. b && passed (tests_by false catalog (exchange n c k m p))) (all-allowed catalog p)

all-derived : (catalog : ℕ → Relation) (p : Plan) → all-passed (tests_by true catalog) p ≡ allowed_derived catalog p
all-derived catalog (scan n c r m z) = refl
all-derived catalog (unary n c op p) = ap (λ b. b && passed (tests_by true catalog (unary n c op p))) (all-derived catalog p)
all-derived catalog (binary n c op p q) = ap₂ (λ a b. a && (b && passed (tests_by true catalog (binary n c op p q)))) (all-derived catalog p) (all-derived catalog q)
all-derived catalog (exchange n c k m p) = ap (λ b. b && passed (tests_by true catalog (exchange n c k m p))) (all-derived catalog p)

all-by : (derives : Bool) (catalog : ℕ → Relation) (p : Plan) → all-passed (tests_by derives catalog) p ≡ allowed_by derives catalog p
all-by false catalog p = all-allowed catalog p
all-by true catalog p = all-derived catalog p

root-by : (derives : Bool) (catalog : ℕ → Relation) (total : Bool) (p : Plan) → passed (root_tests_by derives catalog total p) ≡ root_allowed_by derives catalog total p
root-by false catalog total p = refl
root-by true catalog total p = refl

-- ---- verdicts

-- nothing is refused of exactly those plans that are allowed at every node, and at the root
pub refusal-decides-by : (derives : Bool) (catalog : ℕ → Relation) (total : Bool) (p : Plan)
    → (refusal_by derives catalog total p ≡ None) ↔ ((allowed_by derives catalog p ≡ true) × (root_allowed_by derives catalog total p ≡ true))
refusal-decides-by derives catalog total p =
    let tests : Plan → List (Bool × Rule) = tests_by derives catalog in
    let root : List (Bool × Rule) = root_tests_by derives catalog total p in (
      λ e.
          let w = none-both (first_failing tests p) (refused_at (number p) root) e in
          (sym (all-by derives catalog p) ∙ none-failing tests p w.0, sym (root-by derives catalog total p) ∙ none-failed (number p) root w.1),
      λ h. both-none _ _ (failing-none tests p (all-by derives catalog p ∙ h.0)) (passed-none (number p) root (root-by derives catalog total p ∙ h.1)),
    )

-- the same of the first table alone
pub refusal-decides : (catalog : ℕ → Relation) (is_total : Bool) (p : Plan) → (refusal catalog is_total p ≡ None) ↔ ((allowed catalog p ≡ true) × (root_allowed catalog is_total p ≡ true))
refusal-decides catalog is_total p = refusal-decides-by false catalog is_total p

pub tables-decide : TablesDecide
tables-decide = record { decides = refusal-decides-by; first = λ catalog total p. refl }
