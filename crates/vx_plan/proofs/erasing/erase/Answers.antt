use Rattle.std.proofs.Common.{ap, ◌∙◌, arith}
use Rattle.vx_plan_nodes.specs.Erase.{erase}
use Rattle.vx_plan_nodes.specs.Outline.{outline_of, plan_in}
use Rattle.vx_plan_nodes.specs.TypedView.{scope}
use Rattle.vx_plan_nodes.proofs.ErasedFacts.{erased-plan, erased-is-typed}
use Rattle.vx_plan_nodes.proofs.OutputFacts.{erased-outputs}
use Rattle.vx_plan.proofs.erasing.erase.Goals as goal

pub new-requires-clause-typed : goal.new-requires-clause-typed
new-requires-clause-typed c =
    let t = erased-is-typed (scope c.args.typed.now) (outline_of c.root.result.now) (outline_of c.in_ok-root.root) c.root.ensures.typed c.in_ok-root.ensures.value in
    rw (c.in_ok-catalog.ensures, c.catalog.ensures, c.in_ok-sizes.ensures, c.sizes.ensures.names, c.in_ok-ranges.ensures, c.ranges-2.ensures) t.0

pub new-requires-clause-few : goal.new-requires-clause-few
new-requires-clause-few c =
    let t = erased-is-typed (scope c.args.typed.now) (outline_of c.root.result.now) (outline_of c.in_ok-root.root) c.root.ensures.typed c.in_ok-root.ensures.value in
    omega (arith, t.1, c.root.ensures.few)

pub returns-clause-plan : goal.returns-clause-plan
returns-clause-plan c =
    ap plan_in (c.new.ensures.root ∙ c.in_ok-root.ensures.value) ∙ (erased-plan 0 (outline_of c.root.result.now) ∙ ap erase c.root.ensures.plan)

pub new-requires-clause-outputs : goal.new-requires-clause-outputs
new-requires-clause-outputs c =
    rw (c.in_ok-catalog.ensures, c.catalog.ensures, c.in_ok-root.ensures.value)
    (erased-outputs (scope c.args.typed.now) 0 (outline_of c.root.result.now) c.root.ensures.typed.nodes c.root.ensures.outputs)
