use Rattle.std.proofs.Common.{◌∙◌}
use Rattle.vx_check_options.proofs.OptionFacts.{contains-as}
use Rattle.vx_check_shown.proofs.parts.is_taken.Goals as goal

pub returns : goal.returns
returns c = c.contains.ensures.value ∙ contains-as c.args.taken.now c.args.column
