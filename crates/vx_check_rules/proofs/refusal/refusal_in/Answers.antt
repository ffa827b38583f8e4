use Rattle.vx_plan_nodes.specs.Outline.{plan_of}
use Rattle.vx_check_rules.proofs.TableFacts.{still-judges}
use Rattle.vx_check_rules.proofs.refusal.refusal_in.Goals as goal

pub root_failure-requires : goal.root_failure-requires
root_failure-requires c = (c.args.catalog.now, still-judges _ _ c.args.catalog.now (plan_of c.args.root.now) c.first_refused_in.ensures.stays c.requires.judges, c.requires.outputs)
