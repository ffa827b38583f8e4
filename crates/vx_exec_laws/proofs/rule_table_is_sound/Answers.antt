use Rattle.vx_exec_laws.proofs.Frame.{sound}
use Rattle.vx_exec_laws.proofs.rule_table_is_sound.Goals as goal

pub returns : goal.returns
returns c = sound
