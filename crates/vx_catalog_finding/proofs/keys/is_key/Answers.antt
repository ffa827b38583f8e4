use Rattle.vx_catalog_finding.proofs.KeyFacts.{key_tested}
use Rattle.vx_catalog_finding.proofs.keys.is_key.Goals as goal

pub returns : goal.returns
returns c = key_tested c.args.cols.now c.args.rows.now.rows c.in_ok-first_key_clash.field-0 c.is_none.result c.in_ok-first_key_clash.ensures.clash c.is_none.ensures
