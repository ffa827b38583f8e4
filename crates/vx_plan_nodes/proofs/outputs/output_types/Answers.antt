use Rattle.std.proofs.Common.{ap, ◌∙◌}
use Rattle.vx_plan_nodes.specs.declared.typed.Columns.{Columns}
use Rattle.vx_plan_nodes.specs.Outline.{outline_of}
use Rattle.vx_plan_nodes.proofs.OutputFacts.{top-output}
use Rattle.vx_plan_nodes.proofs.outputs.output_types.Goals as goal

pub returns : goal.returns
returns c = λ catalog h. c.as_slice.ensures.value ∙ (ap (λ (d : Columns). d.types.items) c.deref.ensures ∙ (ap (λ t. t.columns.types) c.head.ensures.top ∙ (top-output catalog (outline_of c.args.node.now) h).types_are))
