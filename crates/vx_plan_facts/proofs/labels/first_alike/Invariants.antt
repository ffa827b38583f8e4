use Rattle.std.proofs.Common.{◌≡◌, ◌<◌, ℕ, false}
use Rattle.vx_plan_facts.specs.Labels.{label_eq, label_at}
use Rattle.vx_plan_facts.proofs.labels.first_alike.Given as goal

abbrev pub invariant-loop-earlier : goal.invariant-loop-earlier
invariant-loop-earlier l = (d : ℕ) → d < l.earlier → label_eq (label_at l.labels d) (label_at l.labels l.column) ≡ false
