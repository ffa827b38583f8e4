use Rattle.std.specs.Arc.{arc_value}
use Rattle.vx_rows_views.proofs.Facts.{part-seen}
use Rattle.vx_rows_views.proofs.positions.Positions.seen.Goals as goal

pub returns-in-Some : goal.returns-in-Some
returns-in-Some c = let e = part-seen arc_value c.self.view_is c.self.invariant c.in-Some.positions c.in-Some.is in cc
