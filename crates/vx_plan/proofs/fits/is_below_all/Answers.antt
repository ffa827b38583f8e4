use Rattle.std.proofs.Common.{sym, ◌∙◌}
use Rattle.std.specs.Ordering.{is_lt}
use Rattle.vx_rows_values.specs.Values.{Val, val_cmp}
use Rattle.vx_rows_values.specs.ValueView.{val_of}
use Rattle.std.proofs.lemmas.List.Folds.{list_all-map}
use Rattle.vx_plan.proofs.fits.is_below_all.Goals as goal

pub returns : goal.returns
returns c = c.all_above.ensures ∙ sym (list_all-map (λ (v : Val). is_lt (val_cmp (val_of c.args.value.now) v)) val_of c.args.others.now)
