use Rattle.vx_exec_laws.proofs.CutFacts.{rows-so-far-meet}
use Rattle.vx_exec_laws.proofs.derived_faults.rows_so_far_meet_their_facts.Goals as goal

pub returns : goal.returns
returns c = rows-so-far-meet
