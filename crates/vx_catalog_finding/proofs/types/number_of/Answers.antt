use Rattle.std.proofs.Common.{◌∙◌}
use Rattle.vx_catalog_finding.proofs.TypeFacts.{number_read}
use Rattle.vx_catalog_finding.proofs.types.number_of.Goals as goal

pub returns : goal.returns
returns c = c.ok.ensures.value ∙ number_read c.args.text.now c.parse.result c.parse.ensures.value.0
