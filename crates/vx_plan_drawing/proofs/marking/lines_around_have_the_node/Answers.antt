use Rattle.vx_plan_drawing.proofs.LineFacts.{window-has}
use Rattle.vx_plan_drawing.proofs.marking.lines_around_have_the_node.Goals as goal

pub returns : goal.returns
returns c = window-has
