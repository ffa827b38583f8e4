use Rattle.vx_plan_nodes.specs.Outline.{plan_of}
use Rattle.vx_check_rules.proofs.TableFacts.{stays-then, still-judges}
use Rattle.vx_check_failures.proofs.failing.failed_at_root.Goals as goal

pub failed_root-requires : goal.failed_root-requires
failed_root-requires c = (c.args.catalog.now, still-judges _ _ c.args.catalog.now (plan_of c.args.root.now) c.failed_at.ensures.stays c.requires.judges, c.requires.outputs)

pub returns-in-None-clause-failure : goal.returns-in-None-clause-failure
returns-in-None-clause-failure c =
    let none = rw c.in-None.is at c.failed_at.ensures.failure in
    let judges = still-judges _ _ c.args.catalog.now (plan_of c.args.root.now) c.failed_at.ensures.stays c.requires.judges in
    let own = rw c.failed_at.ensures.stays.same at (c.failed_root.ensures.failure c.args.catalog.now judges c.requires.outputs) in
    rw (← none) own

pub returns-in-None-clause-stays : goal.returns-in-None-clause-stays
returns-in-None-clause-stays c = stays-then _ _ _ (plan_of c.args.root.now) c.failed_at.ensures.stays c.failed_root.ensures.stays
