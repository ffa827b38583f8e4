use Rattle.vx_exec_threads.proofs.Linking.{joined-is-linked}
use Rattle.vx_exec_threads.proofs.laws.joined_run_is_linked.Goals as goal

pub returns : goal.returns
returns c = joined-is-linked
