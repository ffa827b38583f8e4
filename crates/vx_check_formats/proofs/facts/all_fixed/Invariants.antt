use Rattle.std.proofs.Common.{◌≡◌, ℕ, map, flat_map}
use Rattle.serde_json.specs.View.{view}
use Rattle.vx_plan_nodes.specs.Phases.{first_columns}
use Rattle.vx_plan_facts.specs.Equal.{Equality}
use Rattle.vx_plan_facts.specs.Fixed.{Values}
use Rattle.vx_plan_facts.specs.Facts.{Keeps}
use Rattle.vx_plan_facts.specs.FactsView.{facts_of}
use Rattle.vx_check_formats.specs.Json.{fixed_if}
use Rattle.vx_check_formats.proofs.facts.all_fixed.Given as goal

abbrev pub invariant-loop-column : goal.invariant-loop-column
invariant-loop-column l =
    (w : ℕ) (e : Equality) (f : Values) → Keeps w e f (facts_of l.facts)
    → map view l.list.items ≡ flat_map (fixed_if l.names e f) (first_columns l.column)
