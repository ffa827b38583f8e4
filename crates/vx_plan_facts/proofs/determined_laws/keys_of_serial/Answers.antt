use Rattle.vx_plan_facts.proofs.Listed.{keys-of-serial}
use Rattle.vx_plan_facts.proofs.determined_laws.keys_of_serial.Goals as goal

pub returns : goal.returns
returns c = keys-of-serial
