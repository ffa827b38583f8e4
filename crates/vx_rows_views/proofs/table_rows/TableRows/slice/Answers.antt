use Rattle.std.proofs.Common.{ap}
use Rattle.vx_rows_views.proofs.Columns.{slice-rows}
use Rattle.vx_rows_views.proofs.table_rows.TableRows.slice.Goals as goal

pub returns-clause-rows : goal.returns-clause-rows
returns-clause-rows c = slice-rows c.in_ok-base.ensures c.self.inside.at (ap (λ t. t.rows) c.self.view_is) c.args.from c.args.to _ c.in_ok-at.ensures c.requires.order c.requires.there
