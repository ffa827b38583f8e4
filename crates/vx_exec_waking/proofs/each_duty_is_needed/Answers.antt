use Rattle.vx_exec_waking.proofs.Stuck.{each-duty-is-needed}
use Rattle.vx_exec_waking.proofs.each_duty_is_needed.Goals as goal

pub returns : goal.returns
returns c = each-duty-is-needed
