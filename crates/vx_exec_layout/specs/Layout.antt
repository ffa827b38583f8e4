-- The layout of a run: by node number, between which workers an exchange lies, and which workers read a scan.
use Rattle.std.specs.Prelude.{ℕ, ◌+◌, List, [], ◌∷◌, ◌++◌}
use Rattle.vx_plan_nodes.specs.Plan.{target, Plan, scan, unary, binary, exchange, size}
use Rattle.vx_plan_nodes.specs.Streams.{workers}
use Rattle.vx_plan_nodes.specs.Workers.{workers_below}
use Rattle.vx_exec_layout.specs.declared.span.NodeSpan.{NodeSpan}
use Rattle.vx_exec_layout.specs.declared.span.NodeSpan.TheVariants.{Inner, Exchange, Scan}

-- the nodes of a plan in preorder; the workers of its top fragment begin with number `top`, those of the fragments below it with number `next`
abbrev pub spans_of : (ℕ → ℕ) → Plan → (top next : ℕ) → List NodeSpan
spans_of sizes (scan n c r shared z) top next = Scan (record { number = n; relation = r; is_shared = shared; first = top; workers = workers sizes z }) ∷ []
spans_of sizes (unary n c op p) top next = Inner ∷ spans_of sizes p top next
spans_of sizes (binary n c op p q) top next = Inner ∷ (spans_of sizes p top next ++ spans_of sizes q top (next + workers_below sizes p))
spans_of sizes (exchange n c k merge p) top next =
    Exchange (record { number = n; below = next; producers = workers sizes (size p); above = top; consumers = workers sizes (target k) })
    ∷ spans_of sizes p next (next + workers sizes (size p))
