-- As many spans as nodes.
use Rattle.std.proofs.Common.{◌≡◌, ℕ, suc, ◌+◌, refl, ap, ◌∙◌, length}
use Rattle.std.proofs.lemmas.List.{length-append}
use Rattle.vx_plan_nodes.specs.Plan.{Plan, scan, unary, binary, exchange, size}
use Rattle.vx_plan_nodes.specs.Numbering.{nodes}
use Rattle.vx_plan_nodes.specs.Streams.{workers}
use Rattle.vx_plan_nodes.specs.Workers.{workers_below}
use Rattle.vx_exec_layout.specs.Layout.{spans_of}

pub spans-count : (sizes : ℕ → ℕ) (p : Plan) (top next : ℕ) → length (spans_of sizes p top next) ≡ nodes p
spans-count sizes (scan n c r m z) top next = refl
spans-count sizes (unary n c op p) top next = ap suc (spans-count sizes p top next)
spans-count sizes (binary n c op p q) top next =
    ap suc (length-append (spans_of sizes p top next) (spans_of sizes q top (next + workers_below sizes p)) ∙ λ i. spans-count sizes p top next i + spans-count sizes q top (next + workers_below sizes p) i)
spans-count sizes (exchange n c k m p) top next = ap suc (spans-count sizes p next (next + workers sizes (size p)))
