use Rattle.std.proofs.Common.{ap}
use Rattle.vx_plan_facts.specs.ColumnSetView.{set_of_columns}
use Rattle.vx_plan_facts.specs.AskingView.{answer_of}
use Rattle.vx_plan_facts.proofs.determining.is_answered.Goals as goal

pub returns-in-Some-clause-all : goal.returns-in-Some-clause-all
returns-in-Some-clause-all c h = (set_of_columns c.in-Some.last, ap answer_of c.in-Some.is, c.is_within.ensures.all h)
