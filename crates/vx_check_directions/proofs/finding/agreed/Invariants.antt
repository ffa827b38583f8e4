use Rattle.std.proofs.Common.{◌≡◌, ◌++◌, drop}
use Rattle.vx_check_directions.specs.Directed.{agreed}
use Rattle.vx_check_directions.proofs.finding.agreed.Given as goal

abbrev pub invariant-loop-place : goal.invariant-loop-place
invariant-loop-place l = l.falls.items ++ agreed (drop l.place l.lefts) (drop l.place l.rights) ≡ agreed l.lefts l.rights
