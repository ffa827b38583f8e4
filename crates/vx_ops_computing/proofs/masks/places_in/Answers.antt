use Rattle.std.proofs.Common.{◌∙◌, sym}
use Rattle.vx_rows_views.proofs.Counted.{each-passes}
use Rattle.vx_ops_computing.proofs.masks.places_in.Goals as goal

pub returns-then-count-mask-clause-all : goal.returns-then-count-mask-clause-all
returns-then-count-mask-clause-all c = each-passes (λ b. b) c.args.mask.now (sym c.count_places-count.ensures ∙ c.if-count-mask.true)
