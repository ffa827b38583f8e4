use Rattle.std.proofs.Common.{◌≡◌, ◌++◌, ℕ, List, map}
use Rattle.std.specs.List.{All}
use Rattle.vx_rows_values.specs.Values.{Row}
use Rattle.vx_rows.specs.Lists.{each_below}
use Rattle.vx_plan_nodes.specs.Outline.{plan_of, kind_of}
use Rattle.vx_plan_nodes.specs.Under.{under}
use Rattle.vx_exec_steps.specs.Crews.{producer_duty}
use Rattle.vx_exec.specs.Crew.{duty, IsNew}
use Rattle.vx_exec.specs.Job.{model_of}
use Rattle.vx_exec.proofs.crew.add_producers.Given as goal

abbrev pub invariant-loop-place : goal.invariant-loop-place
invariant-loop-place g l = record {
  duties : (hash : List ℕ → Row → ℕ → ℕ)
      → map (duty g.F.PlanFunctions) l.crew.items ≡ map (duty g.F.PlanFunctions) l.fn.crew.items ++ each_below l.place (producer_duty (model_of hash l.job) l.exchange (kind_of l.kind) (under (g.F.PlanFunctions.functions l.job.functions) (plan_of l.node)));
  new : All (IsNew g.F.PlanFunctions l.job) l.crew.items;
}
