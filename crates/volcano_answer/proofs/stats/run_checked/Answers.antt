use Rattle.vx_plan_nodes.specs.TypedView.{resolved_of}
use Rattle.volcano_answer.proofs.StatsFacts.{rest_refused_or}
use Rattle.volcano_answer.proofs.stats.run_checked.Goals as goal

pub returns-clause-refused : goal.returns-clause-refused
returns-clause-refused g c =
    rest_refused_or c.run_plan.result (resolved_of c.args.plan) (g.B.Tables.holds c.args.tables.now) (g.B.Tables.lacks c.args.tables.now) c.args.setting.now c.in_ok-checked.ensures.shown
    (rw c.in_ok-checked.ensures.plan at c.run_plan.ensures.refused)
