use Rattle.vx_plan_facts.proofs.ColumnSets.{none-held}
use Rattle.vx_plan_facts.proofs.column_set.ColumnSet.new.Goals as goal

pub returns : goal.returns
returns c = none-held
