use Rattle.std.proofs.Common.{sym, ◌∙◌, ◌&&◌}
use Rattle.vx_rows_values.specs.Values.{Val}
use Rattle.vx_rows_values.specs.Types.{type_of, is_held}
use Rattle.vx_rows_values.specs.ValueView.{val_of}
use Rattle.vx_plan_nodes.specs.Typed.{type_eq}
use Rattle.std.proofs.lemmas.List.Folds.{list_all-map}
use Rattle.vx_plan.proofs.fits.are_bounds_of.Goals as goal

pub returns : goal.returns
returns c = c.all_bounds.ensures ∙ sym (list_all-map (λ (b : Val). is_held b && type_eq (type_of b) c.args.kind) val_of c.args.bounds.now)
