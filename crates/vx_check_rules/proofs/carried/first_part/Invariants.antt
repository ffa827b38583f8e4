use Rattle.std.proofs.Common.{◌≡◌, drop}
use Rattle.vx_check_rules.specs.Behaviour.{first_part}
use Rattle.vx_check_rules.specs.WayView.{ways_in}
use Rattle.vx_check_rules.proofs.carried.first_part.Given as goal

abbrev pub invariant-loop-way : goal.invariant-loop-way
invariant-loop-way l = first_part (ways_in (drop l.way-index l.ways)) ≡ first_part (ways_in l.ways)
