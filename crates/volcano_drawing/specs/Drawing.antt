-- The picture of a plan with the counts of a run.
use Rattle.std.specs.Prelude.{◌≡◌, ℕ, List, Some}
use Rattle.vx_plan_nodes.specs.Names.{TypedPlanView}
use Rattle.vx_check_formats.specs.Dot.{outline_dot}
use Rattle.vx_check_formats.specs.declared.totals.NodeTotals.{NodeTotals}
use Rattle.volcano_drawing.specs.Totals.{totals_in}

-- the text of the statistics is of the plan whose operators have these words, and this is the picture of the plan with what it lists
abbrev pub IsDrawn : List (List ℕ) → TypedPlanView → List ℕ → List ℕ → Type 0
IsDrawn words p stats drawn = (cs : List NodeTotals) × (totals_in words stats ≡ Some cs) × (drawn ≡ outline_dot p.names cs p.total p.root)
