-- The text that explains a typed plan.
use Rattle.std.specs.Prelude.{ℕ, List}
use Rattle.vx_plan_nodes.specs.declared.typed_plan.TypedPlan.{TypedPlan}
use Rattle.vx_plan_nodes.specs.TypedView.{resolved_of}
use Rattle.vx_check.specs.Explain.{explain_text}

abbrev pub plan_text : TypedPlan → List ℕ
plan_text p = explain_text (resolved_of p).names (resolved_of p).total (resolved_of p).derives (resolved_of p).root
