use Rattle.vx_exec_laws.proofs.DerivedStreams.{streams-meet}
use Rattle.vx_exec_laws.proofs.derived.streams_meet_their_facts.Goals as goal

pub returns : goal.returns
returns c = streams-meet
