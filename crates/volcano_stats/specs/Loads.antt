-- The loads that were timed.
use Rattle.std.specs.Prelude.{ℕ, List, map}
use Rattle.volcano_stats.specs.declared.loads.LoadTime.{LoadTime}
use Rattle.volcano_stats.specs.declared.loads.LoadTimer.{LoadTimer}

-- the numbers of the relations that were loaded
abbrev pub relations_of : List LoadTime → List ℕ
relations_of ls = map (λ l. l.relation) ls

-- the loads so far
abbrev pub loads_in : {C : Type 0} → LoadTimer C → List LoadTime
loads_in t = t.times.items
