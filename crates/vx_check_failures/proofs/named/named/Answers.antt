use Rattle.vx_plan_facts.specs.FactsView.{width_of}
use Rattle.vx_check_shown.proofs.KeyColumns.{column-at}
use Rattle.vx_check_failures.proofs.named.named.Goals as goal

pub first_of-requires : goal.first_of-requires
first_of-requires c = column-at (width_of c.args.facts.now) c.args.columns.now c.loop-column.column-index c.requires c.loop-column-test.true
