use Rattle.std.proofs.Common.{arith, ap, length}
use Rattle.std.specs.Arc.{arc_value}
use Rattle.vx_rows_views.proofs.Columns.{at-there, count-rows, places-rows}
use Rattle.vx_rows_views.proofs.table_rows.TableRows.at.Goals as goal

pub invariant_of-result : goal.invariant_of-result
invariant_of-result c =
    let n = ap (λ t. length t.rows) c.in_ok-base.ensures in
    let m = count-rows c.in_ok-base.ensures c.self.inside.at (ap (λ t. t.rows) c.self.view_is) in
    at-there (length (arc_value c.in_ok-base.base).rows) c.self.inside.at c.in_ok-at.at c.args.places.now c.in_ok-at.ensures
    (λ k d l. let r = c.requires k d l in omega (arith, m, r)) (λ k d l. let r = c.self.invariant k d l in omega (arith, n, r))

pub returns-clause-rows : goal.returns-clause-rows
returns-clause-rows c = places-rows c.in_ok-base.ensures c.self.inside.at (ap (λ t. t.rows) c.self.view_is) c.args.places.now _ c.in_ok-at.ensures c.requires
