use Rattle.std.proofs.Common.{◌∙◌}
use Rattle.std.proofs.lemmas.Str.Pattern.{starts_text}
use Rattle.vx_functions.proofs.TextFacts.{begins-is}
use Rattle.vx_ops_computing.proofs.texts.BeginsTextTest.passes.Goals as goal

pub returns : goal.returns
returns c =
    let front = c.args.self.now.front.now in
    starts_text c.starts_with.result front c.args.text.now c.starts_with.ensures.cases ∙ begins-is front c.args.text.now
