use Rattle.std.proofs.Common.{ℕ, ◌<◌, ◌+◌}
use Rattle.vx_exec_threads.specs.Joined.{FlowsThrough}
use Rattle.vx_exec_assembly.specs.Pairs.{Reunited}
use Rattle.vx_exec_assembly.specs.Plans.{PairIn}
use Rattle.vx_exec_assembly.proofs.pairs.reunite_producer.Given as goal

abbrev pub invariant-loop-place : goal.invariant-loop-place
invariant-loop-place l =
    Reunited l.fn.outs.items l.fn.ins.items l.outs.items l.ins.items
    × ((i : ℕ) → i < l.place → PairIn FlowsThrough l.fn.outs.items l.fn.ins.items l.putter i (l.above + i) l.exchange l.from)
