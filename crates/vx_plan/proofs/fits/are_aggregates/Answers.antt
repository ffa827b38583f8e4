use Rattle.std.proofs.Common.{sym, ◌∙◌}
use Rattle.vx_plan_nodes.specs.Typed.{is_aggregate}
use Rattle.vx_plan_nodes.specs.Outline.{aggregate_of}
use Rattle.std.proofs.lemmas.List.Folds.{list_all-map}
use Rattle.vx_plan.proofs.fits.are_aggregates.Goals as goal

pub returns : goal.returns
returns c = c.all_aggregates.ensures ∙ sym (list_all-map (is_aggregate c.args.types.now) aggregate_of c.args.aggregates.now)
