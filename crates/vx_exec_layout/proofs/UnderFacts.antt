-- The layout of a run does not depend on the functions of a plan.
use Rattle.std.proofs.Common.{◌≡◌, ℕ, ◌+◌, ◌*◌, List, ◌∷◌, ◌++◌, refl, ap, ap₂, ◌∙◌}
use Rattle.vx_rows_values.specs.Values.{Row}
use Rattle.vx_plan_nodes.specs.Plan.{target, union, join, semi_join, Plan, scan, unary, binary, exchange, size}
use Rattle.vx_plan_nodes.specs.Streams.{workers}
use Rattle.vx_plan_nodes.specs.Workers.{workers_below}
use Rattle.vx_plan_nodes.specs.Under.{Functions, under}
use Rattle.vx_plan_nodes.proofs.UnderFacts.{size-under, workers-under}
use Rattle.vx_exec_layout.specs.Layout.{spans_of}
use Rattle.vx_exec_layout.specs.Needed.{most_rows, most_turns, worker_steps, steps_below}
use Rattle.vx_exec_layout.specs.UnderLaws.{LayoutStays}
use Rattle.vx_exec_layout.specs.declared.span.NodeSpan.TheVariants.{Inner, Exchange}

spans-under : (given : Functions) (sizes : ℕ → ℕ) (p : Plan) (top next : ℕ) → spans_of sizes (under given p) top next ≡ spans_of sizes p top next
spans-under given sizes (scan n c r m z) top next = refl
spans-under given sizes (unary n c op p) top next = ap (λ s. Inner ∷ s) (spans-under given sizes p top next)
spans-under given sizes (binary n c op p q) top next =
    ap₂ (λ s t. Inner ∷ (s ++ t)) (spans-under given sizes p top next)
    (spans-under given sizes q top (next + workers_below sizes (under given p)) ∙ ap (λ k. spans_of sizes q top (next + k)) (workers-under given sizes p))
spans-under given sizes (exchange n c k merge p) top next =
    ap₂ (λ z s. Exchange (record { number = n; below = next; producers = workers sizes z; above = top; consumers = workers sizes (target k) }) ∷ s) (size-under given p)
    (spans-under given sizes p next (next + workers sizes (size (under given p))) ∙ ap (λ z. spans_of sizes p next (next + workers sizes z)) (size-under given p))

-- ---- rounds

rows-under : (given : Functions) (db : ℕ → List Row) (sizes : ℕ → ℕ) (p : Plan) → most_rows db sizes (under given p) ≡ most_rows db sizes p
rows-under given db sizes (scan n c r m z) = refl
rows-under given db sizes (unary n c op p) = rows-under given db sizes p
rows-under given db sizes (binary n c union p q) = ap₂ (λ a b. a + b) (rows-under given db sizes p) (rows-under given db sizes q)
rows-under given db sizes (binary n c (join m on) p q) = ap₂ (λ a b. a * b) (rows-under given db sizes p) (rows-under given db sizes q)
rows-under given db sizes (binary n c (semi_join matched on conditions) p q) = rows-under given db sizes p
rows-under given db sizes (exchange n c k merge p) = ap₂ (λ z a. workers sizes z * a) (size-under given p) (rows-under given db sizes p)

turns-under : (given : Functions) (db : ℕ → List Row) (sizes : ℕ → ℕ) (p : Plan) → most_turns db sizes (under given p) ≡ most_turns db sizes p
turns-under given db sizes (scan n c r m z) = refl
turns-under given db sizes (unary n c op p) = ap₂ (λ a b. a + b) (rows-under given db sizes p) (turns-under given db sizes p)
turns-under given db sizes (binary n c op p q) =
    ap₂ (λ a b. 2 * a + 2 + b) (ap₂ (λ a b. a + b) (rows-under given db sizes p) (rows-under given db sizes q))
    (ap₂ (λ a b. a + b) (turns-under given db sizes p) (turns-under given db sizes q))
turns-under given db sizes (exchange n c k merge p) = ap₂ (λ z a. workers sizes z * (a + 1)) (size-under given p) (rows-under given db sizes p)

steps-under : (given : Functions) (db : ℕ → List Row) (sizes : ℕ → ℕ) (consumers : ℕ) (p : Plan) → worker_steps db sizes consumers (under given p) ≡ worker_steps db sizes consumers p
steps-under given db sizes consumers p =
    ap₂ (λ a b. (consumers + 1) * a + b + (2 * consumers + 4)) (rows-under given db sizes p) (turns-under given db sizes p)

below-under : (given : Functions) (db : ℕ → List Row) (sizes : ℕ → ℕ) (p : Plan) → steps_below db sizes (under given p) ≡ steps_below db sizes p
below-under given db sizes (scan n c r m z) = refl
below-under given db sizes (unary n c op p) = below-under given db sizes p
below-under given db sizes (binary n c op p q) = ap₂ (λ a b. a + b) (below-under given db sizes p) (below-under given db sizes q)
below-under given db sizes (exchange n c k merge p) =
    ap₂ (λ a b. a + b) (ap₂ (λ z a. workers sizes z * a) (size-under given p) (steps-under given db sizes (workers sizes (target k)) p)) (below-under given db sizes p)

pub layout-stays : LayoutStays
layout-stays = record {
  spans = spans-under;
  rounds = λ given db sizes p. ap₂ (λ a b. a + b) (steps-under given db sizes 0 p) (below-under given db sizes p);
}
