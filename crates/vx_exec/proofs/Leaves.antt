-- In a numbered plan the types by number are those of the leaves.
use Rattle.std.proofs.Common.{◌≡◌, ℕ, suc, ◌+◌, ◌<◌, ◌≤◌, ◌==◌, ◌&&◌, true, cond, List, refl, sym, ap, ◌∙◌, arith, eqb-true, eq-eqb, ne_eqb}
use Rattle.std.proofs.lemmas.Bool.{le-ltb, lt-ltb}
use Rattle.vx_rows_values.specs.declared.value.ColType.{ColType}
use Rattle.vx_catalog_relations.specs.Relation.{Relation}
use Rattle.vx_plan_nodes.specs.Plan.{Plan, scan, unary, binary, exchange, number}
use Rattle.vx_plan_nodes.specs.Types.{types_of}
use Rattle.vx_plan_nodes.specs.Numbering.{nodes, is_numbered}
use Rattle.vx_exec_laws.proofs.Bags.{and-left, and-right}
use Rattle.vx_exec_laws.proofs.Layouts.{number-is}
use Rattle.vx_exec.specs.LeafTypes.{leaf_types, LeavesFit}

-- types that are a plan's leaves' within its numbers fit it
leaves-within : (catalog : ℕ → Relation) (f : ℕ → List ColType) (i : ℕ) (p : Plan) → is_numbered i p ≡ true
    → ((k : ℕ) → i ≤ k → k < i + nodes p → f k ≡ leaf_types catalog p k) → LeavesFit f catalog p
leaves-within catalog f i (scan n c r m z) h same = let e : n ≡ i = eqb-true n i h in sym (same n (omega (arith, e)) (omega (arith, e)))
leaves-within catalog f i (unary n c op p) h same =
    leaves-within catalog f (suc i) p (and-right (n == i) (is_numbered (suc i) p) h) (λ k a b. same k (omega arith) (omega arith))
leaves-within catalog f i (binary n c op p q) h same =
    let both = and-right (n == i) (is_numbered (suc i) p && is_numbered (suc i + nodes p) q) h in
    let hp = and-left (is_numbered (suc i) p) (is_numbered (suc i + nodes p) q) both in
    let hq = and-right (is_numbered (suc i) p) (is_numbered (suc i + nodes p) q) both in
    let at : number q ≡ suc i + nodes p = number-is (suc i + nodes p) q hq in (
      leaves-within catalog f (suc i) p hp
          (λ k a b. same k (omega arith) (omega arith) ∙ ap (λ c. cond c (leaf_types catalog p k) (leaf_types catalog q k)) (lt-ltb k (number q) (omega (arith, at, b)))),
      leaves-within catalog f (suc i + nodes p) q hq
          (λ k a b. same k (omega arith) (omega arith) ∙ ap (λ c. cond c (leaf_types catalog p k) (leaf_types catalog q k)) (le-ltb k (number q) (omega (arith, at, a)))),
    )
leaves-within catalog f i (exchange n c x m p) h same =
    let e : n ≡ i = eqb-true n i (and-left (n == i) (is_numbered (suc i) p) h) in (
      sym (same n (omega (arith, e)) (omega (arith, e)) ∙ ap (λ b. cond b (types_of catalog p) (leaf_types catalog p n)) (eq-eqb n n refl)),
      leaves-within catalog f (suc i) p (and-right (n == i) (is_numbered (suc i) p) h)
          (λ k a b. same k (omega arith) (omega arith) ∙ ap (λ b. cond b (types_of catalog p) (leaf_types catalog p k)) (ne_eqb k n (λ z. omega (arith, e, a, z)))),
    )

pub leaves-fit : (catalog : ℕ → Relation) (p : Plan) → is_numbered 0 p ≡ true → LeavesFit (leaf_types catalog p) catalog p
leaves-fit catalog p h = leaves-within catalog (leaf_types catalog p) 0 p h (λ k a b. refl)
