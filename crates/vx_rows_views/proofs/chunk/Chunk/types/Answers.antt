use Rattle.std.proofs.Common.{subst}
use Rattle.std.specs.List.{AllByRecursion}
use Rattle.vx_rows_values.specs.Types.{Fits}
use Rattle.vx_rows.specs.View.{RowsView}
use Rattle.vx_rows_views.proofs.Fitting.{chunk-fits}
use Rattle.vx_rows_views.proofs.chunk.Chunk.types.Goals as goal

pub returns-clause-fit : goal.returns-clause-fit
returns-clause-fit c = subst (λ (t : RowsView). AllByRecursion (Fits t.types) t.rows) c.self.view_is (chunk-fits c.self.invariant)
