use Rattle.vx_plan_facts.proofs.ColumnSets.{put-bit}
use Rattle.vx_plan_facts.proofs.column_set.ColumnSet.put.Goals as goal

pub returns-then-column-lt-MAX_COLUMNS : goal.returns-then-column-lt-MAX_COLUMNS
returns-then-column-lt-MAX_COLUMNS c x l = put-bit c.args.self.now.held c.args.column x c.if-column-lt-MAX_COLUMNS.true l
