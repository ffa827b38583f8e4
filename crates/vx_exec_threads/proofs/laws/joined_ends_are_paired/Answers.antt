use Rattle.vx_exec_threads.proofs.Still.{paired-stays}
use Rattle.vx_exec_threads.proofs.laws.joined_ends_are_paired.Goals as goal

pub returns : goal.returns
returns c = paired-stays
