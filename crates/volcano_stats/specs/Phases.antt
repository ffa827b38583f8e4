-- The phases that were timed.
use Rattle.std.specs.Prelude.{List, map}
use Rattle.volcano_stats.specs.declared.phases.WorkPhase.{WorkPhase}
use Rattle.volcano_stats.specs.declared.phases.PhaseTime.{PhaseTime}
use Rattle.volcano_stats.specs.declared.phases.Timer.{Timer}

abbrev pub phases_of : List PhaseTime → List WorkPhase
phases_of ts = map (λ t. t.phase) ts

-- the times so far
abbrev pub times_in : Timer → List PhaseTime
times_in t = t.times.items
