-- A node that no claims can fit fails, or one below it does, whatever is claimed.
use Rattle.std.proofs.Common.{◌≡◌, ◌⊎◌, inr, ⊎_elim, eq-eqb, ℕ, suc, ◌+◌, ◌==◌, nat_lt, nat_le, Bool, true, false, cond, ◌&&◌, ◌||◌, inl, Option, Some, None, option_map, refl, sym, ap, ◌∙◌, arith, true≢false}
use Rattle.std.proofs.lemmas.Bool.Decides.{nat_tests}
use Rattle.vx_catalog_relations.specs.Relation.{Relation}
use Rattle.vx_catalog_relations.specs.Catalog.{relation_at}
use Rattle.vx_plan_nodes.specs.Plan.{Plan, scan, unary, binary, exchange}
use Rattle.vx_plan_nodes.specs.Numbering.{nodes, is_numbered}
use Rattle.vx_plan_nodes.specs.Typed.{Scope, typed}
use Rattle.vx_rows_values.proofs.Booleans.{and-left, and-right}
use Rattle.vx_check_rules.specs.Rules.{allowed}
use Rattle.vx_check_rules.specs.Refusal.{Rule, first_failure, or_else, refused_at}
use Rattle.vx_check_options.specs.Options.{no_input, parts_at, is_within_here, is_within, fit_tests, first_unfit}
use Rattle.vx_check_options.specs.Laws.{Keeps}
use Rattle.vx_check_options.proofs.OnlyOptions.{only-options}
use Rattle.vx_check_directions.proofs.Alike.{nodes-alike, numbered-alike}
use Rattle.vx_check_annotate.specs.Saved.{is_saved}
use Rattle.vx_check_annotate.specs.Possible.{possible, possible_choice}
use Rattle.vx_check_annotate.proofs.PossibleFacts.{typed-falls, fit-stays, possible-turned}

-- ---- numbers of nodes

-- the number is one of so many from the first on
abbrev is_between : ℕ → ℕ → ℕ → Bool
is_between i k m = nat_le i k && nat_lt k (i + m)

-- the number of the first node is one of them
here-between : (n i k m : ℕ) → (n == i) ≡ true → (n == k) ≡ true → is_between i k (suc m) ≡ true
here-between n i k m e f = grind (arith, nat_tests, e, f)

-- so is each of an input
below-between : (i k m : ℕ) → is_between (suc i) k m ≡ true → is_between i k (suc m) ≡ true
below-between i k m h = grind (arith, nat_tests, and-left (nat_le (suc i) k) (nat_lt k (suc i + m)) h, and-right (nat_le (suc i) k) (nat_lt k (suc i + m)) h)

-- each of a left input
left-between : (i k m l : ℕ) → is_between (suc i) k m ≡ true → is_between i k (suc (m + l)) ≡ true
left-between i k m l h = grind (arith, nat_tests, and-left (nat_le (suc i) k) (nat_lt k (suc i + m)) h, and-right (nat_le (suc i) k) (nat_lt k (suc i + m)) h)

-- and each of a right one
right-between : (i k m l : ℕ) → is_between (suc i + m) k l ≡ true → is_between i k (suc (m + l)) ≡ true
right-between i k m l h = grind (arith, nat_tests, and-left (nat_le (suc i + m) k) (nat_lt k (suc i + m + l)) h, and-right (nat_le (suc i + m) k) (nat_lt k (suc i + m + l)) h)

-- no number is that of a node of both inputs
apart : (i k m l : ℕ) → is_between i k m ≡ true → is_between (i + m) k l ≡ true → true ≡ false
apart i k m l h g = grind (arith, nat_tests, and-right (nat_le i k) (nat_lt k (i + m)) h, and-left (nat_le (i + m) k) (nat_lt k (i + m + l)) g)

-- ---- where a node is found

-- equal answers say the same
pub some-is : (y z : ℕ × Rule) → Some y ≡ Some z → y ≡ z
some-is y z e = cc

-- the node itself
found-here : (n k : ℕ) (r : Rule) (o : Option Rule) → option_map {U = ℕ × Rule} (λ r. (n, r)) o ≡ Some (k, r) → (n == k) ≡ true
found-here n k r None e = cc
found-here n k r (Some x) e = let same : n ≡ k = ap (λ (y : ℕ × Rule). y.0) (some-is (n, x) (k, r) e) in ap (λ k. n == k) (sym same) ∙ eq-eqb n n refl

-- the first of two answers, or the second where there is no first one
pub which : (o u : Option (ℕ × Rule)) (x : ℕ × Rule) → or_else o u ≡ Some x → (o ≡ Some x) ⊎ ((o ≡ None) × (u ≡ Some x))
which None u x e = inr (refl, e)
which (Some y) u x e = inl e

-- it is one of the plan
found-between : (catalog : ℕ → Relation) (i k : ℕ) (r : Rule) (p : Plan) → is_numbered i p ≡ true → first_unfit catalog p ≡ Some (k, r) → is_between i k (nodes p) ≡ true
found-between catalog i k r (scan n c z m s) h e = here-between n i k 0 h (found-here n k r (first_failure (fit_tests catalog (scan n c z m s))) e)
found-between catalog i k r (unary n c op p) h e =
    ⊎_elim (λ a. below-between i k (nodes p) (found-between catalog (suc i) k r p (and-right (n == i) (is_numbered (suc i) p) h) a))
    (λ a. here-between n i k (nodes p) (and-left (n == i) (is_numbered (suc i) p) h) (found-here n k r (first_failure (fit_tests catalog (unary n c op p))) a.1))
    (which (first_unfit catalog p) (refused_at n (fit_tests catalog (unary n c op p))) (k, r) e)
found-between catalog i k r (binary n c op p q) h e =
    let both = and-right (n == i) (is_numbered (suc i) p && is_numbered (suc i + nodes p) q) h in
    ⊎_elim (λ a. left-between i k (nodes p) (nodes q) (found-between catalog (suc i) k r p (and-left (is_numbered (suc i) p) (is_numbered (suc i + nodes p) q) both) a))
    (λ a. ⊎_elim (λ b. right-between i k (nodes p) (nodes q) (found-between catalog (suc i + nodes p) k r q (and-right (is_numbered (suc i) p) (is_numbered (suc i + nodes p) q) both) b))
    (λ b. here-between n i k (nodes p + nodes q) (and-left (n == i) (is_numbered (suc i) p && is_numbered (suc i + nodes p) q) h) (found-here n k r (first_failure (fit_tests catalog (binary n c op p q))) b.1))
    (which (first_unfit catalog q) (refused_at n (fit_tests catalog (binary n c op p q))) (k, r) a.1))
    (which (first_unfit catalog p) (or_else (first_unfit catalog q) (refused_at n (fit_tests catalog (binary n c op p q)))) (k, r) e)
found-between catalog i k r (exchange n c kind m p) h e =
    ⊎_elim (λ a. below-between i k (nodes p) (found-between catalog (suc i) k r p (and-right (n == i) (is_numbered (suc i) p) h) a))
    (λ a. here-between n i k (nodes p) (and-left (n == i) (is_numbered (suc i) p) h) (found-here n k r (first_failure (fit_tests catalog (exchange n c kind m p))) a.1))
    (which (first_unfit catalog p) (refused_at n (fit_tests catalog (exchange n c kind m p))) (k, r) e)

-- ---- where a node is saved

-- one of two tests holds
either : (b c : Bool) → (b || c) ≡ true → (b ≡ true) ⊎ (c ≡ true)
either true c h = inl refl
either false c h = inr h

-- at the node or below it
at-or-below : (n k : ℕ) (a b : Bool) → cond (n == k) a b ≡ true → ((n == k) ≡ true) ⊎ (b ≡ true)
at-or-below n k a b h = by (n == k) h
  where
    by : (t : Bool) → cond t a b ≡ true → (t ≡ true) ⊎ (b ≡ true)
    by true l = inl refl
    by false l = inr l

-- it is one of the plan
saved-between : (catalog : ℕ → Relation) (i k : ℕ) (p q : Plan) → Keeps p q → is_numbered i p ≡ true → is_saved catalog k q ≡ true → is_between i k (nodes p) ≡ true
saved-between catalog i k (scan n c r m z) q e h s =
    here-between n i k 0 h (and-left (n == k) (allowed catalog (scan n e.0 r m z)) (ap (is_saved catalog k) (sym e.1) ∙ s))
saved-between catalog i k (unary n c op p) q e h s =
    ⊎_elim (λ a. here-between n i k (nodes p) (and-left (n == i) (is_numbered (suc i) p) h) a)
    (λ a. below-between i k (nodes p) (saved-between catalog (suc i) k p e.1 e.4 (and-right (n == i) (is_numbered (suc i) p) h) a))
    (at-or-below n k (allowed catalog (unary n e.0 op e.1)) (is_saved catalog k e.1) (ap (is_saved catalog k) (sym e.2) ∙ s))
saved-between catalog i k (binary n c op p p2) q e h s =
    let both = and-right (n == i) (is_numbered (suc i) p && is_numbered (suc i + nodes p) p2) h in
    ⊎_elim (λ a. here-between n i k (nodes p + nodes p2) (and-left (n == i) (is_numbered (suc i) p && is_numbered (suc i + nodes p) p2) h) a)
    (λ a. ⊎_elim (λ b. left-between i k (nodes p) (nodes p2) (saved-between catalog (suc i) k p e.1 e.5 (and-left (is_numbered (suc i) p) (is_numbered (suc i + nodes p) p2) both) b))
    (λ b. right-between i k (nodes p) (nodes p2) (saved-between catalog (suc i + nodes p) k p2 e.2 e.6 (and-right (is_numbered (suc i) p) (is_numbered (suc i + nodes p) p2) both) b))
    (either (is_saved catalog k e.1) (is_saved catalog k e.2) a))
    (at-or-below n k (allowed catalog (binary n e.0 op e.1 e.2)) (is_saved catalog k e.1 || is_saved catalog k e.2) (ap (is_saved catalog k) (sym e.3) ∙ s))
saved-between catalog i k (exchange n c kind m p) q e h s =
    ⊎_elim (λ a. here-between n i k (nodes p) (and-left (n == i) (is_numbered (suc i) p) h) a)
    (λ a. below-between i k (nodes p) (saved-between catalog (suc i) k p e.1 e.4 (and-right (n == i) (is_numbered (suc i) p) h) a))
    (at-or-below n k (allowed catalog (exchange n e.0 kind m e.1)) (is_saved catalog k e.1) (ap (is_saved catalog k) (sym e.2) ∙ s))

-- ---- no claims save an unfit node

-- a test that cannot hold fails
not-true : (b : Bool) → (b ≡ true → true ≡ false) → b ≡ false
not-true true f = f refl
not-true false f = refl

-- the plan of a node that is unfit in the directions that are left it is not allowed
not-allowed : (s : Scope) (p q : Plan) (x : ℕ × Rule) → Keeps p q → is_within (relation_at s.catalog) p ≡ true → typed s p ≡ true → typed s q ≡ true
    → first_unfit (relation_at s.catalog) (possible (relation_at s.catalog) p) ≡ Some x → allowed (relation_at s.catalog) q ≡ false
not-allowed s p q x keeps within tp t unfit =
    let C : ℕ → Relation = relation_at s.catalog in
    not-true (allowed C q) (λ ok.
    let fit = (only-options s p q keeps (inl within) t ok).0 in
    let none : None ≡ Some x = sym fit ∙ (ap (first_unfit C) (sym (fit-stays C p (typed-falls s p tp) fit)) ∙ unfit) in cc)

-- at the node, or below it
cond-false : (t a b : Bool) → a ≡ false → (t ≡ false → b ≡ false) → cond t a b ≡ false
cond-false true a b h g = h
cond-false false a b h g = g refl

-- two tests fail
or-none : (a b : Bool) → a ≡ false → b ≡ false → (a || b) ≡ false
or-none true b h g = h
or-none false b h g = g

-- the second of two tests fails
and-none : (a b : Bool) → b ≡ false → (a && b) ≡ false
and-none true b h = h
and-none false b h = refl

-- with another number it is found below
found-below : (n k : ℕ) (r : Rule) (o : Option (ℕ × Rule)) (f : Option Rule) → (n == k) ≡ false → or_else o (option_map (λ r. (n, r)) f) ≡ Some (k, r) → o ≡ Some (k, r)
found-below n k r o f other e =
    ⊎_elim (λ a. a) (λ a. absurd (true≢false (sym (found-here n k r f a.1) ∙ other))) (which o (option_map (λ r. (n, r)) f) (k, r) e)

-- a node that is unfit in the directions that are left it is one of the plan
found-in : (catalog : ℕ → Relation) (i k : ℕ) (r : Rule) (p : Plan) → is_numbered i p ≡ true → first_unfit catalog (possible catalog p) ≡ Some (k, r) → is_between i k (nodes p) ≡ true
found-in catalog i k r p h e =
    let same = possible-turned catalog p in
    let count : nodes (possible catalog p) ≡ nodes p = ap nodes same ∙ nodes-alike (possible_choice catalog) p in
    ap (is_between i k) (sym count)
    ∙ found-between catalog i k r (possible catalog p) (ap (is_numbered i) same ∙ (numbered-alike (possible_choice catalog) i p ∙ h)) e

pub never-saved : (s : Scope) (i k : ℕ) (r : Rule) (p q : Plan) → Keeps p q → is_within (relation_at s.catalog) p ≡ true → typed s p ≡ true → typed s q ≡ true → is_numbered i p ≡ true
    → first_unfit (relation_at s.catalog) (possible (relation_at s.catalog) p) ≡ Some (k, r) → is_saved (relation_at s.catalog) k q ≡ false
never-saved s i k r (scan n c z m g) q e w tp t h unfit =
    let catalog : ℕ → Relation = relation_at s.catalog in
    let bad = not-allowed s (scan n c z m g) q (k, r) e w tp t unfit in
    ap (is_saved catalog k) e.1 ∙ and-none (n == k) (allowed catalog (scan n e.0 z m g)) (ap (allowed catalog) (sym e.1) ∙ bad)
never-saved s i k r (unary n c op p) q e w tp t h unfit =
    let catalog : ℕ → Relation = relation_at s.catalog in
    let bad = not-allowed s (unary n c op p) q (k, r) e w tp t unfit in
    ap (is_saved catalog k) e.2 ∙ cond-false (n == k) (allowed catalog (unary n e.0 op e.1)) (is_saved catalog k e.1) (ap (allowed catalog) (sym e.2) ∙ bad)
    (λ other. never-saved s (suc i) k r p e.1 e.4 (and-left (is_within catalog p) (is_within_here catalog (unary n c op p) (parts_at catalog p) no_input) w)
    (and-left (typed s p) _ tp) (and-left (typed s e.1) _ (ap (typed s) (sym e.2) ∙ t)) (and-right (n == i) (is_numbered (suc i) p) h)
    (found-below n k r (first_unfit catalog (possible catalog p)) (first_failure (fit_tests catalog (possible catalog (unary n c op p)))) other unfit))
never-saved s i k r (binary n c op p p2) q e w tp t h unfit =
    let catalog : ℕ → Relation = relation_at s.catalog in
    let bad = not-allowed s (binary n c op p p2) q (k, r) e w tp t unfit in
    let here : Bool = is_within_here catalog (binary n c op p p2) (parts_at catalog p) (parts_at catalog p2) in
    let within = and-right (is_within catalog p) (is_within catalog p2 && here) w in
    let made : typed s (binary n e.0 op e.1 e.2) ≡ true = ap (typed s) (sym e.3) ∙ t in
    let left_typed : typed s e.1 ≡ true = and-left (typed s e.1) _ made in
    let right_typed : typed s e.2 ≡ true = and-left (typed s e.2) _ (and-right (typed s e.1) _ made) in
    let left_plain : typed s p ≡ true = and-left (typed s p) _ tp in
    let right_plain : typed s p2 ≡ true = and-left (typed s p2) _ (and-right (typed s p) _ tp) in
    let both = and-right (n == i) (is_numbered (suc i) p && is_numbered (suc i + nodes p) p2) h in
    let one = and-left (is_numbered (suc i) p) (is_numbered (suc i + nodes p) p2) both in
    let two = and-right (is_numbered (suc i) p) (is_numbered (suc i + nodes p) p2) both in
    let failed = first_failure (fit_tests catalog (possible catalog (binary n c op p p2))) in
    let lefts : Option (ℕ × Rule) = first_unfit catalog (possible catalog p) in
    let rights : Option (ℕ × Rule) = first_unfit catalog (possible catalog p2) in
    ap (is_saved catalog k) e.3 ∙ cond-false (n == k) (allowed catalog (binary n e.0 op e.1 e.2)) (is_saved catalog k e.1 || is_saved catalog k e.2) (ap (allowed catalog) (sym e.3) ∙ bad)
    (λ other. ⊎_elim
    (λ a. or-none (is_saved catalog k e.1) (is_saved catalog k e.2)
    (never-saved s (suc i) k r p e.1 e.5 (and-left (is_within catalog p) (is_within catalog p2 && here) w) left_plain left_typed one a)
    (not-true (is_saved catalog k e.2) (λ l. apart (suc i) k (nodes p) (nodes p2) (found-in catalog (suc i) k r p one a) (saved-between catalog (suc i + nodes p) k p2 e.2 e.6 two l))))
    (λ a. let found = found-below n k r rights failed other a.1 in or-none (is_saved catalog k e.1) (is_saved catalog k e.2)
    (not-true (is_saved catalog k e.1) (λ l. apart (suc i) k (nodes p) (nodes p2) (saved-between catalog (suc i) k p e.1 e.5 one l) (found-in catalog (suc i + nodes p) k r p2 two found)))
    (never-saved s (suc i + nodes p) k r p2 e.2 e.6 (and-left (is_within catalog p2) here within) right_plain right_typed two found))
    (which lefts (or_else rights (refused_at n (fit_tests catalog (possible catalog (binary n c op p p2))))) (k, r) unfit))
never-saved s i k r (exchange n c kind m p) q e w tp t h unfit =
    let catalog : ℕ → Relation = relation_at s.catalog in
    let bad = not-allowed s (exchange n c kind m p) q (k, r) e w tp t unfit in
    ap (is_saved catalog k) e.2 ∙ cond-false (n == k) (allowed catalog (exchange n e.0 kind m e.1)) (is_saved catalog k e.1) (ap (allowed catalog) (sym e.2) ∙ bad)
    (λ other. never-saved s (suc i) k r p e.1 e.4 (and-left (is_within catalog p) (is_within_here catalog (exchange n c kind m p) no_input no_input) w)
    (and-left (typed s p) _ tp) (and-left (typed s e.1) _ (ap (typed s) (sym e.2) ∙ t)) (and-right (n == i) (is_numbered (suc i) p) h)
    (found-below n k r (first_unfit catalog (possible catalog p)) (first_failure (fit_tests catalog (possible catalog (exchange n c kind m p)))) other unfit))
