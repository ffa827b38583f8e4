use Rattle.vx_plan_facts.proofs.Joined.{facts-of-serial}
use Rattle.vx_plan_facts.proofs.determined_laws.facts_of_serial.Goals as goal

pub returns : goal.returns
returns c = facts-of-serial
