use Rattle.vx_ops_computing.specs.Given.{expression_by}
use Rattle.vx_ops_computing.proofs.ColumnsOf.{beside-widened}
use Rattle.vx_ops_computing.proofs.projecting.with_column.Goals as goal

pub returns-clause-rows : goal.returns-clause-rows
returns-clause-rows g c =
    beside-widened c.args.chunk.now.types (expression_by (g.F.PlanFunctions.functions c.args.functions.now) c.args.expression.now) c.args.chunk.now.rows c.in_ok-operand.operand c.len.result c.args.wide.rows c.in_ok-column.column.rows _
    c.in_ok-operand.ensures.answers c.in_ok-column.ensures.rows c.len.ensures c.requires.long c.in_ok-beside.ensures.rows
