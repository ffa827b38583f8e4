use Rattle.vx_plan_facts.specs.FactsView.{width_of}
use Rattle.vx_check_shown.proofs.Entries.{entry-there}
use Rattle.vx_check_shown.proofs.orders.firsts_of.Goals as goal

pub first_of-requires : goal.first_of-requires
first_of-requires c = entry-there (width_of c.args.facts.now) c.args.order.now c.loop-entry.entry-index _ c.requires c.loop-entry-test.true
