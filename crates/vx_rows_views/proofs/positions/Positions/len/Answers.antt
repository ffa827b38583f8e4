use Rattle.std.specs.Arc.{arc_value}
use Rattle.vx_rows_views.proofs.Facts.{count-seen}
use Rattle.vx_rows_views.proofs.positions.Positions.len.Goals as goal

pub returns : goal.returns
returns c = count-seen arc_value c.self.view_is c.self.invariant
