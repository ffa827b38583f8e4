use Rattle.std.proofs.Common.{ℕ, ◌<◌, ◌+◌}
use Rattle.vx_exec_threads.specs.Joined.{FlowsThrough}
use Rattle.vx_exec_assembly.specs.Pairs.{Reunited}
use Rattle.vx_exec_assembly.specs.Plans.{PairIn}
use Rattle.vx_exec_assembly.proofs.pairs.reunite_exchange.Given as goal

abbrev pub invariant-loop-place : goal.invariant-loop-place
invariant-loop-place l =
    Reunited l.fn.outs.items l.fn.ins.items l.outs.items l.ins.items
    × ((i j : ℕ) → i < l.place → j < l.consumers → PairIn FlowsThrough l.fn.outs.items l.fn.ins.items (l.below + i) j (l.above + j) l.exchange i)
