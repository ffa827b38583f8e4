use Rattle.std.proofs.Common.{◌≡◌, false, map, take}
use Rattle.volcano_answer.specs.Plans.{any_scans}
use Rattle.volcano_answer.specs.PlansView.{named_is}
use Rattle.volcano_answer.proofs.plans.any_scans.Given as goal

abbrev pub invariant-loop-accepted : goal.invariant-loop-accepted
invariant-loop-accepted l = any_scans (map named_is (take l.accepted-index l.plans)) l.relation ≡ false
