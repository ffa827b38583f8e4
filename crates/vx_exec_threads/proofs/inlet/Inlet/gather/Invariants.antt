use Rattle.std.proofs.Common.{◌≡◌, ◌≤◌, length, deque_capacity}
use Rattle.vx_exec_threads.specs.Inlets.{KeepsIn}
use Rattle.vx_exec_threads.proofs.inlet.Inlet.gather.Given as goal

abbrev pub invariant-loop-moved : goal.invariant-loop-moved
invariant-loop-moved l = KeepsIn l.fn.self l.self × (l.moved ≤ length l.self.queue.items)
    × (l.moved ≡ 0 → l.self.queue.items ≡ l.fn.self.queue.items) × (deque_capacity l.fn.self.queue ≤ deque_capacity l.self.queue)
