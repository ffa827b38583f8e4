use Rattle.std.proofs.Common.{sym, ◌∙◌}
use Rattle.vx_plan_nodes.specs.Typed.{is_condition}
use Rattle.vx_plan_nodes.specs.Outline.{condition_of}
use Rattle.std.proofs.lemmas.List.Folds.{list_all-map}
use Rattle.vx_plan.proofs.fits.are_conditions.Goals as goal

pub returns : goal.returns
returns c = c.all_conditions.ensures ∙ sym (list_all-map (is_condition c.args.types.now) condition_of c.args.conditions.now)
