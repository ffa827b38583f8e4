use Rattle.vx_exec_laws.proofs.Total.{sound-at-root}
use Rattle.vx_exec_laws.proofs.rule_table_is_sound_at_root.Goals as goal

pub returns : goal.returns
returns c = sound-at-root
