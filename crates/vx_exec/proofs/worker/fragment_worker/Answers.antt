use Rattle.std.proofs.Common.{ap, ◌∙◌, map}
use Rattle.vx_plan_nodes.specs.Outline.{plan_of}
use Rattle.vx_exec_steps.specs.Crews.{duty_of}
use Rattle.vx_exec_operators.specs.Destination.{post_of}
use Rattle.vx_worker.specs.Intake.{source_of}
use Rattle.vx_exec.proofs.Workers.{made-does, made-new}
use Rattle.vx_exec.proofs.worker.fragment_worker.Goals as goal

pub returns-clause-duty : goal.returns-clause-duty
returns-clause-duty g c = λ hash.
    ap duty_of c.new.ensures.role
    ∙ made-does g.F.PlanFunctions c.args.job.now hash c.args.place (plan_of c.args.node.now) c.in_ok-tree.tree (post_of c.args.destination) c.in_ok-tree.ensures

pub returns-clause-new : goal.returns-clause-new
returns-clause-new g c =
    made-new g.F.PlanFunctions c.args.job.now c.args.place (plan_of c.args.node.now) c.in_ok-tree.tree c.args.destination (map source_of c.in_ok-inputs.inputs.items) c.new.result
    c.in_ok-tree.ensures c.requires.part.leaves c.requires.unused c.new.ensures.ready c.new.ensures.role c.new.ensures.stands c.in_ok-inputs.ensures.sources
    c.new.ensures.starts
