use Rattle.vx_exec_laws.proofs.SampleRuns.{sample-run}
use Rattle.vx_exec_laws.proofs.runs.sample_run_is_met.Goals as goal

pub returns : goal.returns
returns c = sample-run
