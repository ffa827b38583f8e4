use Rattle.std.proofs.Common.{◌∙◌}
use Rattle.std.proofs.lemmas.Result.{IfOk-weaker}
use Rattle.vx_catalog_finding.proofs.LayoutFacts.{texts_joined}
use Rattle.vx_catalog_finding.proofs.layout.joined.Goals as goal

pub returns : goal.returns
returns c = IfOk-weaker c.join.result _ _ (λ s h. h ∙ texts_joined c.args.separator.now c.args.parts.now) c.join.ensures.ok
