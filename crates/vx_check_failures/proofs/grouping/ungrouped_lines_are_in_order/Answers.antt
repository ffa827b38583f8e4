use Rattle.vx_check_failures.proofs.GroupFacts.{grouped-none}
use Rattle.vx_check_failures.proofs.grouping.ungrouped_lines_are_in_order.Goals as goal

pub returns : goal.returns
returns c = grouped-none
