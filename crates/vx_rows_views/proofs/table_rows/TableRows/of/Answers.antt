use Rattle.std.proofs.Common.{arith, ap, length}
use Rattle.vx_rows_views.proofs.Columns.{range-there, range-rows}
use Rattle.vx_rows_views.proofs.table_rows.TableRows.of.Goals as goal

pub invariant_of-result : goal.invariant_of-result
invariant_of-result c = let e = ap (λ t. length t.rows) c.in_ok-base.ensures in let l = c.requires.there in range-there _ c.args.from c.args.to _ c.range-at.ensures c.requires.order (omega (arith, e, l))

pub returns-clause-rows : goal.returns-clause-rows
returns-clause-rows c = range-rows c.in_ok-base.ensures c.args.from c.args.to _ c.range-at.ensures c.requires.order c.requires.there
