-- The producers from which a worker takes are those of the leaves of its fragment.
use Rattle.std.proofs.Common.{ℕ, ◌≡◌, ◌<◌, ◌++◌, inl, inr, refl, sym, ap, ap₂, ◌∙◌, subst, arith}
use Rattle.std.proofs.lemmas.List.Elements.{Contains-append_cases}
use Rattle.std.specs.List.{Contains}
use Rattle.vx_rows.specs.Lists.{each_below}
use Rattle.vx_plan_nodes.specs.Plan.{Plan, scan, unary, binary, exchange, size}
use Rattle.vx_plan_nodes.specs.Streams.{workers}
use Rattle.vx_plan_nodes.specs.Under.{Functions, under}
use Rattle.vx_plan_nodes.proofs.UnderFacts.{size-under}
use Rattle.vx_worker.specs.Fragment.{RunModel, fragment}
use Rattle.vx_worker.specs.Trees.{TakesFrom}
use Rattle.vx_exec_steps.proofs.Each.{each-length, each-at}
use Rattle.vx_exec.specs.Inputs.{inputs_of}

-- they are those of the plan under any functions
pub inputs-under : (given : Functions) (sizes : ℕ → ℕ) (p : Plan) → inputs_of sizes (under given p) ≡ inputs_of sizes p
inputs-under given sizes (scan n c r m z) = refl
inputs-under given sizes (unary n c op p) = inputs-under given sizes p
inputs-under given sizes (binary n c op p q) = ap₂ (λ a b. a ++ b) (inputs-under given sizes p) (inputs-under given sizes q)
inputs-under given sizes (exchange n c k m p) = ap (λ z. each_below (workers sizes z) (λ i. (n, i))) (size-under given p)

-- one of the producers of an exchange
one-of : (n count x i : ℕ) → Contains {X = ℕ × ℕ} (each_below count (λ k. (n, k))) (x, i) → (n ≡ x) × (i < count)
one-of n count x i h =
    let f : ℕ → ℕ × ℕ = λ k. (n, k) in
    let k : ℕ = h.0 in
    let many = each-length count f in
    let within : k < count = let l = h.1 in omega (arith, l, many) in
    let is : f k ≡ (x, i) = sym (each-at count f k (x, i) within) ∙ h.2 in
    (ap (λ (s : ℕ × ℕ). s.0) is, subst (λ z. z < count) (ap (λ (s : ℕ × ℕ). s.1) is) within)

pub inputs-take : (S : RunModel) (place : ℕ) (p : Plan) (x i : ℕ) → Contains {X = ℕ × ℕ} (inputs_of S.sizes p) (x, i) → TakesFrom x i (fragment S place p)
inputs-take S place (scan n c r m z) x i h = let l = h.1 in absurd (omega (arith, l))
inputs-take S place (unary n c op p) x i h = inputs-take S place p x i h
inputs-take S place (binary n c op p q) x i h = elim (Contains-append_cases (inputs_of S.sizes p) (inputs_of S.sizes q) (x, i) h) [
  | inl l ↦ inl (inputs-take S place p x i l)
  | inr r ↦ inr (inputs-take S place q x i r)
]
inputs-take S place (exchange n c k m p) x i h = one-of n (workers S.sizes (size p)) x i h
