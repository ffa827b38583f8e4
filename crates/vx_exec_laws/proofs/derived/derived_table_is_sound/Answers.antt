use Rattle.vx_exec_laws.proofs.DerivedFrame.{derived-sound}
use Rattle.vx_exec_laws.proofs.derived.derived_table_is_sound.Goals as goal

pub returns : goal.returns
returns c = derived-sound
