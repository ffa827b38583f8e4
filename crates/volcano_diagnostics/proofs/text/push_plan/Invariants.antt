use Rattle.std.proofs.Common.{◌≡◌, ◌++◌, drop, flat_map}
use Rattle.volcano_diagnostics.specs.Text.{plan_line}
use Rattle.volcano_diagnostics.proofs.text.push_plan.Given as goal

abbrev pub invariant-loop-line : goal.invariant-loop-line
invariant-loop-line l = l.text.items ++ flat_map plan_line (drop l.line-index l.plan) ≡ l.fn.text.items ++ flat_map plan_line l.plan
