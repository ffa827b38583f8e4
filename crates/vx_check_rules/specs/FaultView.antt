-- Why a plan was not accepted, as the program says it.
use Rattle.std.specs.Prelude.{◌≡◌, true, Some}
use Rattle.vx_plan_nodes.specs.declared.typed_plan.TypedPlan.{TypedPlan}
use Rattle.vx_plan_nodes.specs.TypedView.{resolved_of}
use Rattle.vx_check_rules.specs.declared.fault.CheckFault.{CheckFault}
use Rattle.vx_check_rules.specs.declared.fault.CheckFault.TheVariants as fault
use Rattle.vx_check_rules.specs.Checked.{refusal_of_plan}
use Rattle.vx_check_rules.specs.RuleView.{rule_of}

-- the plan is refused, and returned as it was; or memory ran out, which only a plan needs that asks for what is known of columns
abbrev pub IsFaultOf : TypedPlan → CheckFault → Type 0
IsFaultOf p (fault.Refused r) = (refusal_of_plan p ≡ Some (r.node, rule_of r.rule)) × (r.plan ≡ p)
IsFaultOf p (fault.NoMemory e) = (resolved_of p).derives ≡ true
