use Rattle.vx_plan_nodes.specs.Outline.{plan_of}
use Rattle.vx_plan_nodes.specs.TypedView.{scope}
use Rattle.vx_check_rules.proofs.NamedKeys.{typed-keys}
use Rattle.vx_check_rules.proofs.checking.plan_refusal.Goals as goal

pub refusal_in-requires-clause-keys : goal.refusal_in-requires-clause-keys
refusal_in-requires-clause-keys c = rw c.catalog.ensures (typed-keys (scope c.args.plan.now) (plan_of c.root.result.now) c.root.ensures.typed.nodes)
