use Rattle.std.proofs.Common.{◌≡◌}
use Rattle.vx_worker.proofs.Marks.{marked_until}
use Rattle.vx_worker.proofs.intake.Intake.mark.Given as goal

abbrev pub invariant-loop-place : goal.invariant-loop-place
invariant-loop-place l =
    (l.self.inputs.items ≡ marked_until l.place l.exchange l.from l.fn.self.inputs.items) × (l.self.finished.items ≡ l.fn.self.finished.items)
