use Rattle.vx_plan_json.specs.Operators.{range_in}
use Rattle.vx_plan_json.proofs.operators.read_range.Goals as goal

pub returns : goal.returns
unfolding range_in
returns c = rw (c.in_ok-test_members.ensures.ok, c.in_ok-size.ensures, c.in_ok-range.ensures, c.in_ok-column.ensures)
