use Rattle.std.proofs.Common.{ℕ, false, ◌≡◌, ◌<◌, ◌≤◌, length, Some, slice_get}
use Rattle.vx_worker.specs.Trace.{idle}
use Rattle.vx_exec_threads.specs.Carrying.{Does}
use Rattle.vx_exec_threads.specs.Inlets.{IsGathered}
use Rattle.vx_exec_threads.specs.Gathering.{QueuesStay}
use Rattle.vx_exec_threads.specs.declared.inlet.Inlet.{Inlet}
use Rattle.vx_exec_threads.proofs.ends.Ends.gather.Given as goal

abbrev pub invariant-loop-place : goal.invariant-loop-place
invariant-loop-place l =
    Does l.fn.self idle l.self × (l.self.draws ≡ l.fn.self.draws) × (length l.self.ins.items ≡ length l.fn.self.ins.items)
    × ((k : ℕ) (e : Inlet) → k < l.place → slice_get l.self.ins.items k ≡ Some e → IsGathered e)
    × (l.moved ≡ false → QueuesStay l.fn.self.ins.items l.self.ins.items)
    × ((k : ℕ) → l.place ≤ k → slice_get l.self.ins.items k ≡ slice_get l.fn.self.ins.items k) × (l.self.unwoken ≡ l.fn.self.unwoken)
