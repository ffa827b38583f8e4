use Rattle.vx_exec_laws.proofs.DerivedFrame.{derived-sound-at-root}
use Rattle.vx_exec_laws.proofs.derived.derived_table_is_sound_at_root.Goals as goal

pub returns : goal.returns
returns c = derived-sound-at-root
