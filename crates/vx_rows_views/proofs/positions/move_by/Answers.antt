use Rattle.std.proofs.Common.{◌+◌, rules}
use Rattle.std.proofs.lemmas.List.Edits.{map_over_more}
use Rattle.vx_rows_views.proofs.positions.move_by.Goals as goal

pub loop-i-preserved : goal.loop-i-preserved
loop-i-preserved c = map_over_more (λ x. c.args.from + x) c.args.places.now c.loop-i.places c.loop-i.i _ (search rules) c.loop-i.invariant (search rules)
