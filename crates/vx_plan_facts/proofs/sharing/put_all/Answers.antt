use Rattle.vx_plan_facts.specs.Facts.{values_of}
use Rattle.vx_plan_facts.specs.FactsView.{facts_of}
use Rattle.vx_plan_facts.specs.Listing.{beside}
use Rattle.vx_plan_facts.proofs.ValueLists.{behind-more}
use Rattle.vx_plan_facts.proofs.sharing.put_all.Goals as goal

pub loop-column-preserved : goal.loop-column-preserved
loop-column-preserved c = behind-more (λ d. beside d (values_of (facts_of c.args.below.now) d)) c.loop-column.column _ _ _ c.loop-column.invariant c.in_ok-put_column.ensures
