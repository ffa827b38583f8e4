-- The exchanges of a plan, by their spans (our own).
use Rattle.std.proofs.Common.{arith, ℕ, ◌≤◌, ◌+◌, List, Vec, Global}
use Rattle.std.specs.List.{All, AllByRecursion}
use Rattle.std.proofs.lemmas.List.Elements.{All-from_recursion}
use Rattle.vx_rows_values.specs.Limits.{max_group_workers, max_workers}
use Rattle.vx_plan_nodes.specs.Plan.{target, Plan, scan, unary, binary, exchange, size}
use Rattle.vx_plan_nodes.specs.Streams.{workers}
use Rattle.vx_plan_nodes.specs.Workers.{workers_below, IsWithin, worker_group_at}
use Rattle.vx_exec_layout.specs.Layout.{spans_of}
use Rattle.vx_exec_layout.specs.declared.span.NodeSpan.{NodeSpan}
use Rattle.vx_exec_layout.specs.declared.span.NodeSpan.TheVariants.{Inner, Exchange, Scan}
use Rattle.vx_exec_layout.proofs.Each.{each-both}
use Rattle.vx_exec_layout.proofs.Order.{workers-within}
use Rattle.vx_ports_rings.specs.declared.ring.RingOut.{RingOut}
use Rattle.vx_exec_threads.specs.declared.inlet.Inlet.{Inlet}
use Rattle.vx_exec_threads.specs.Joined.{FlowsThrough}
use Rattle.vx_exec_threads.specs.Paired.{IsRingOf}
use Rattle.vx_exec_assembly.specs.Pairs.{Reunited}
use Rattle.vx_exec_assembly.specs.Spans.{IsSpanned, IsSmall}
use Rattle.vx_exec_assembly.proofs.Walking.{pair-on, pair-back}

module _ (groups : List ℕ) (within : All (IsWithin 1 max_group_workers) groups) where
  each-small : (p : Plan) (top next : ℕ) → top ≤ max_workers → next + workers_below (worker_group_at groups) p ≤ max_workers → AllByRecursion IsSmall (spans_of (worker_group_at groups) p top next)
  each-small (scan n c r m z) top next t h = (tt, tt)
  each-small (unary n c op p) top next t h = (tt, each-small p top next t h)
  each-small (binary n c op p q) top next t h =
      let behind = next + workers_below (worker_group_at groups) p in (
        tt,
        each-both IsSmall (spans_of (worker_group_at groups) p top next) (spans_of (worker_group_at groups) q top behind) (each-small p top next t (omega (arith, h))) (each-small q top behind t (omega (arith, h))),
      )
  each-small (exchange n c k merge p) top next t h =
      let low : next ≤ max_workers = omega (arith, h) in (
        (low, (workers-within groups within (size p)).1, t, (workers-within groups within (target k)).1),
        each-small p next (next + workers (worker_group_at groups) (size p)) low (omega (arith, h)),
      )

  pub small-spans : (p : Plan) (top next : ℕ) → top ≤ max_workers → next + workers_below (worker_group_at groups) p ≤ max_workers → All IsSmall (spans_of (worker_group_at groups) p top next)
  small-spans p top next t h = All-from_recursion IsSmall (spans_of (worker_group_at groups) p top next) (each-small p top next t h)

-- ---- over ends that were brought together

module _ (os ps : List (Vec RingOut Global)) (is js : List (Vec Inlet Global)) (r : Reunited os is ps js) where
  pub spanned-on : (z : NodeSpan) → IsSpanned IsRingOf os is z → IsSpanned IsRingOf ps js z
  spanned-on Inner h = tt
  spanned-on (Exchange s) h = λ i j a b. pair-on os ps is js r (s.below + i) j (s.above + j) s.number i (h i j a b)
  spanned-on (Scan s) h = tt

  pub spanned-back : (z : NodeSpan) → IsSpanned FlowsThrough ps js z → IsSpanned FlowsThrough os is z
  spanned-back Inner h = tt
  spanned-back (Exchange s) h = λ i j a b. pair-back os ps is js r (s.below + i) j (s.above + j) s.number i (h i j a b)
  spanned-back (Scan s) h = tt
