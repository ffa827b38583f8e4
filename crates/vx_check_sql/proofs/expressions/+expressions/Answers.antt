use Rattle.std.proofs.Common.{map, string_bytes}
use Rattle.vx_check_sql.proofs.CallFacts.{call-sql}
use Rattle.vx_check_sql.proofs.expressions.+expressions.Goals as goal

pub push_expression-returns-in-Call : goal.push_expression-returns-in-Call
push_expression-returns-in-Call n c =
    rw c.in-Call.is
    (rw (call-sql c.args.dialect (map string_bytes c.args.columns.now) c.args.asks c.in-Call.name c.in-Call.field-1 c.in-Call.operands)
    (rw (c.named.ensures, c.as_str.ensures.value, c.as_slice.ensures.value) at c.push_call.ensures))
