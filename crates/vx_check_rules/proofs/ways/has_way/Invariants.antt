use Rattle.std.proofs.Common.{◌≡◌, true, drop}
use Rattle.std.specs.List.{list_any}
use Rattle.vx_check_rules.specs.WayView.{ways_in}
use Rattle.vx_check_rules.proofs.ways.has_way.Given as goal

abbrev pub invariant-loop-way : goal.invariant-loop-way
invariant-loop-way l = list_any (λ w. true) (ways_in l.ways) ≡ list_any (λ w. true) (ways_in (drop l.way-index l.ways))
