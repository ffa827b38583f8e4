-- Workers by number, and scans by number.
use Rattle.std.proofs.Common.{◌≡◌, ℕ, suc, ◌+◌, ◌<◌, ◌≤◌, ◌==◌, ◌&&◌, true, false, cond, refl, ap, ◌∙◌, arith, eqb-true, eq-eqb}
use Rattle.std.proofs.lemmas.Bool.{le-ltb, lt-ltb}
use Rattle.vx_catalog_relations.specs.Relation.{Relation}
use Rattle.vx_plan_nodes.specs.Plan.{Binary, Claim, Plan, scan, unary, binary, exchange, size, number, size_eq}
use Rattle.vx_plan_nodes.specs.Streams.{workers}
use Rattle.vx_check_rules.specs.Rules.{allowed, allowed_here, sizes_match}
use Rattle.vx_check_rules.specs.Derived.{allowed_derived, allowed_here_derived}
use Rattle.vx_worker.specs.Fragment.{RunModel}
use Rattle.vx_worker.specs.Trace.{Trace, IsWell, Ends}
use Rattle.vx_exec_laws.specs.RunOf.{Known, RunOf}
use Rattle.vx_plan_nodes.specs.Numbering.{is_fit, nodes, is_numbered, relation_in}
use Rattle.vx_exec_laws.specs.Layout.{FlatRun, FlatIsRun, NumberedIsFit}
use Rattle.vx_plan_nodes.specs.Workers.{workers_below}
use Rattle.vx_exec_laws.proofs.Bags.{and-left, and-right, and-both}
use Rattle.vx_exec_laws.proofs.Inherited.{Inherited, allowed-inherited, derived-inherited}

abbrev pub flat-to-run : (S : RunModel) (E : Known) (ts : ℕ → Trace) (p : Plan) (top next : ℕ) → FlatRun S E ts p top next → RunOf S E p (λ w. ts (top + w))
flat-to-run S E ts (scan n c r true z) top next h = h
flat-to-run S E ts (scan n c r false z) top next h = h
flat-to-run S E ts (unary n c op p) top next h = flat-to-run S E ts p top next h
flat-to-run S E ts (binary n c op p q) top next h = (flat-to-run S E ts p top next h.0, flat-to-run S E ts q top (next + workers_below S.sizes p) h.1)
flat-to-run S E ts (exchange n c k merge p) top next h =
    (λ i. ts (next + i), flat-to-run S E ts p next (next + workers S.sizes (size p)) h.0, h.1, h.2)

pub flat-is-run : FlatIsRun
flat-is-run S ts p top next = (flat-to-run S (IsWell S) ts p top next, flat-to-run S (Ends S) ts p top next)

pub number-is : (i : ℕ) (p : Plan) → is_numbered i p ≡ true → number p ≡ i
number-is i (scan n c r m z) h = eqb-true n i h
number-is i (unary n c op p) h = eqb-true n i (and-left (n == i) (is_numbered (suc i) p) h)
number-is i (binary n c op p q) h = eqb-true n i (and-left (n == i) (is_numbered (suc i) p && is_numbered (suc i + nodes p) q) h)
number-is i (exchange n c k m p) h = eqb-true n i (and-left (n == i) (is_numbered (suc i) p) h)

-- of plans that have it, both inputs of a node have one size
abbrev SizesMatch : (Plan → Type 0) → Type 0
SizesMatch Has = (n : ℕ) (c : Claim) (op : Binary) (p q : Plan) → Has (binary n c op p q) → size_eq (size p) (size q) ≡ true

-- a function that gives each scan's relation within these numbers is fit
fit-within : (Has : Plan → Type 0) → Inherited Has → SizesMatch Has → (f : ℕ → ℕ) (i : ℕ) (p : Plan) → is_numbered i p ≡ true → Has p
    → ((k : ℕ) → i ≤ k → k < i + nodes p → f k ≡ relation_in p k) → is_fit f p ≡ true
fit-within Has down sizes f i (scan n c r m z) h ok same =
    let e : n ≡ i = eqb-true n i h in
    eq-eqb (f n) r (same n (omega (arith, e)) (omega (arith, e)))
fit-within Has down sizes f i (unary n c op p) h ok same =
    fit-within Has down sizes f (suc i) p (and-right (n == i) (is_numbered (suc i) p) h) (down.input n c op p ok)
    (λ k a b. same k (omega arith) (omega arith))
fit-within Has down sizes f i (binary n c op p q) h ok same =
    let both = and-right (n == i) (is_numbered (suc i) p && is_numbered (suc i + nodes p) q) h in
    let hp = and-left (is_numbered (suc i) p) (is_numbered (suc i + nodes p) q) both in
    let hq = and-right (is_numbered (suc i) p) (is_numbered (suc i + nodes p) q) both in
    let at : number q ≡ suc i + nodes p = number-is (suc i + nodes p) q hq in
    and-both (size_eq (size p) (size q)) (is_fit f p && is_fit f q) (sizes n c op p q ok)
    (and-both (is_fit f p) (is_fit f q)
    (fit-within Has down sizes f (suc i) p hp (down.left n c op p q ok)
    (λ k a b. same k (omega arith) (omega arith) ∙ ap (λ c. cond c (relation_in p k) (relation_in q k)) (lt-ltb k (number q) (omega (arith, at, b)))))
    (fit-within Has down sizes f (suc i + nodes p) q hq (down.right n c op p q ok)
    (λ k a b. same k (omega arith) (omega arith) ∙ ap (λ c. cond c (relation_in p k) (relation_in q k)) (le-ltb k (number q) (omega (arith, at, a))))))
fit-within Has down sizes f i (exchange n c k m p) h ok same =
    fit-within Has down sizes f (suc i) p (and-right (n == i) (is_numbered (suc i) p) h) (down.sent n c k m p ok)
    (λ k a b. same k (omega arith) (omega arith))

module _ (catalog : ℕ → Relation) where
  first-sizes : SizesMatch (λ p. allowed catalog p ≡ true)
  first-sizes n c op p q ok =
      let node : Plan = binary n c op p q in
      let rest = and-right (allowed catalog p) (allowed catalog q && allowed_here catalog node) ok in
      and-left (sizes_match node) _ (and-right (allowed catalog q) (allowed_here catalog node) rest)

  second-sizes : SizesMatch (λ p. allowed_derived catalog p ≡ true)
  second-sizes n c op p q ok =
      let node : Plan = binary n c op p q in
      let rest = and-right (allowed_derived catalog p) (allowed_derived catalog q && allowed_here_derived catalog node) ok in
      and-left (sizes_match node) _ (and-right (allowed_derived catalog q) (allowed_here_derived catalog node) rest)

pub numbered-is-fit : NumberedIsFit
numbered-is-fit false catalog p h ok = fit-within (λ p. allowed catalog p ≡ true) (allowed-inherited catalog) (first-sizes catalog) (relation_in p) 0 p h ok (λ k a b. refl)
numbered-is-fit true catalog p h ok = fit-within (λ p. allowed_derived catalog p ≡ true) (derived-inherited catalog) (second-sizes catalog) (relation_in p) 0 p h ok (λ k a b. refl)
