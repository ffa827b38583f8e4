use Rattle.std.proofs.Common.{ℕ, ◌<◌}
use Rattle.std.specs.List.{slice_index_or}
use Rattle.vx_exec_threads.specs.Joined.{FlowsThrough}
use Rattle.vx_exec_assembly.specs.Pairs.{Reunited}
use Rattle.vx_exec_assembly.specs.Spans.{IsSpanned}
use Rattle.vx_exec_layout.specs.declared.span.NodeSpan.{NodeSpan}
use Rattle.vx_exec_assembly.proofs.plans.reunite_spans.Given as goal

abbrev pub invariant-loop-k : goal.invariant-loop-k
invariant-loop-k l =
    Reunited l.fn.outs.items l.fn.ins.items l.outs.items l.ins.items
    × ((m : ℕ) (d : NodeSpan) → m < l.k → IsSpanned FlowsThrough l.fn.outs.items l.fn.ins.items (slice_index_or l.spans m d))
