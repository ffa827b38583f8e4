use Rattle.std.proofs.Common.{◌∙◌}
use Rattle.std.proofs.lemmas.Str.Pattern.{starts_text}
use Rattle.vx_functions.proofs.TextFacts.{begins-is}
use Rattle.vx_functions.proofs.texts.starts_with.Goals as goal

pub returns : goal.returns
returns c = starts_text c.starts_with.result c.args.front.now c.args.text.now c.starts_with.ensures.cases ∙ begins-is c.args.front.now c.args.text.now
