use Rattle.std.specs.Arc.{arc_value}
use Rattle.vx_rows_views.proofs.Facts.{whole-seen}
use Rattle.vx_rows_views.proofs.positions.Positions.list.Goals as goal

pub returns : goal.returns
returns c = whole-seen arc_value c.in_ok-shared.shared c.len-count.result c.args.positions c.in_ok-shared.ensures.ok c.len-count.ensures
