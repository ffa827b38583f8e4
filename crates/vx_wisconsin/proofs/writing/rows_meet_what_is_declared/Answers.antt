use Rattle.vx_wisconsin.proofs.Loaded.{law}
use Rattle.vx_wisconsin.proofs.writing.rows_meet_what_is_declared.Goals as goal

pub returns : goal.returns
returns c = law
