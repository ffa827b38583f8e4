-- The setting that the sizes of a run make of a plan and a database.
use Rattle.std.specs.Prelude.{ℕ, List}
use Rattle.vx_rows_values.specs.Values.{Row}
use Rattle.vx_catalog.specs.Database.{Database, rows_at}
use Rattle.vx_plan_nodes.specs.Numbering.{relation_in}
use Rattle.vx_plan_nodes.specs.Typed.{bounds_at}
use Rattle.vx_plan_nodes.specs.TypedView.{scope, plan}
use Rattle.vx_plan_nodes.specs.declared.typed_plan.TypedPlan.{TypedPlan}
use Rattle.vx_check_rules.specs.Checked.{relations}
use Rattle.vx_worker.specs.Fragment.{RunModel}
use Rattle.vx_plan_nodes.specs.Workers.{worker_group_at}
use Rattle.vx_exec_runs.specs.Sizes.{Sizes}

-- what a run of a plan over a database is given, where a hash route sends keys so
abbrev pub run_model : (hash : List ℕ → Row → ℕ → ℕ) → TypedPlan → Database → Sizes → RunModel
run_model hash p db s = record {
  catalog = relations p;
  db = rows_at db;
  relation_of = relation_in (plan p);
  sizes = worker_group_at s.worker_groups;
  hash = hash;
  bounds = bounds_at (scope p).ranges;
  packet = s.packet;
  morsel = s.morsel;
}
