use Rattle.std.proofs.Common.{sym, ◌∙◌}
use Rattle.vx_plan_nodes.specs.Outline.{filter_of}
use Rattle.vx_plan.specs.Resolve.{filter_fits}
use Rattle.std.proofs.lemmas.List.Folds.{list_all-map}
use Rattle.vx_plan.proofs.fits.are_filters.Goals as goal

pub returns : goal.returns
returns c = c.all_filters.ensures ∙ sym (list_all-map (filter_fits c.args.types.now) filter_of c.args.filters.now)
