use Rattle.vx_rows_values.proofs.KeyFacts.{key-law}
use Rattle.vx_rows_values.proofs.keys.keys_are_tested.Goals as goal

pub returns : goal.returns
returns c = key-law
