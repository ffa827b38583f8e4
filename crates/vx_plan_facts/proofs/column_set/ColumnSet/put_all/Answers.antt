use Rattle.vx_plan_facts.proofs.ColumnSets.{put-bits}
use Rattle.vx_plan_facts.proofs.column_set.ColumnSet.put_all.Goals as goal

pub returns : goal.returns
returns c x l = put-bits c.args.self.now.held c.args.others.now.held x l
