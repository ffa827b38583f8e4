-- Why a grouping stops.
use Rattle.std.specs.Prelude.{◌≡◌, ℕ, ◌<◌, ◌≤◌, false, List, length, None}
use Rattle.std.specs.List.{list_all}
use Rattle.vx_rows_values.specs.Values.{Row}
use Rattle.vx_plan_nodes.specs.Plan.{Aggregate}
use Rattle.vx_plan_nodes.specs.Serial.{group_rows}
use Rattle.vx_match_grouping.specs.Groups.{Held, held_fits}
use Rattle.vx_match_grouping.specs.declared.fault.GroupFault.{GroupFault}
use Rattle.vx_match_grouping.specs.declared.fault.GroupFault.TheVariants.{Overflow, TooMany, NoMemory}

-- a grouping of these rows: a sum or a count does not fit 64 bits, or there are more than 2^62 rows, or memory ran out
abbrev pub GroupBlame : GroupFault → List ℕ → List Aggregate → List Row → Type 0
GroupBlame Overflow by aggregates xs = group_rows by aggregates xs ≡ None
GroupBlame TooMany by aggregates xs = 4611686018427387904 < length xs
GroupBlame NoMemory by aggregates xs = Unit {0}

-- these rows were to be taken: they are more than 2^62, or memory ran out
abbrev pub TakeBlame : GroupFault → List Row → Type 0
TakeBlame Overflow xs = ⊥
TakeBlame TooMany xs = 4611686018427387904 < length xs
TakeBlame NoMemory xs = Unit {0}

-- the end behind these rows: a sum or a count does not fit 64 bits, or memory ran out
abbrev pub EndBlame : GroupFault → List ℕ → List Aggregate → List Row → Type 0
EndBlame Overflow by aggregates xs = group_rows by aggregates xs ≡ None
EndBlame TooMany by aggregates xs = ⊥
EndBlame NoMemory by aggregates xs = Unit {0}

-- one more row for an aggregate that counted so many: 2^62 or more, or memory ran out
abbrev pub StepBlame : GroupFault → ℕ → Type 0
StepBlame Overflow n = ⊥
StepBlame TooMany n = 4611686018427387904 ≤ n
StepBlame NoMemory n = Unit {0}

-- the values of these: one does not fit 64 bits, or memory ran out
abbrev pub CellsBlame : GroupFault → List Held → Type 0
CellsBlame Overflow hs = list_all held_fits hs ≡ false
CellsBlame TooMany hs = ⊥
CellsBlame NoMemory hs = Unit {0}
