use Rattle.std.proofs.Common.{[]}
use Rattle.vx_rows_views.proofs.Passing.{places-filter}
use Rattle.vx_rows_views.proofs.laws.places_are_a_filter.Goals as goal

pub returns : goal.returns
returns c = λ test rows. places-filter test [] rows.rows
