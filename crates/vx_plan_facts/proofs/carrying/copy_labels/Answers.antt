use Rattle.std.proofs.Common.{◌∙◌, ◌++◌, ◌∷◌, [], ap}
use Rattle.vx_plan_nodes.specs.Describe.{source}
use Rattle.vx_plan_nodes.specs.DescribeView.{copying_of}
use Rattle.vx_plan_facts.specs.Labels.{copy_label}
use Rattle.vx_plan_facts.proofs.ValueLists.{map-more}
use Rattle.vx_plan_facts.proofs.carrying.copy_labels.Goals as goal

pub loop-column-preserved : goal.loop-column-preserved
loop-column-preserved c =
    let n = c.loop-column.column in
    let is = c.copy_label.ensures ∙ ap (λ s. copy_label c.args.firsts.now n s) c.source.ensures in
    map-more (λ d. copy_label c.args.firsts.now d (source (copying_of c.args.copying) d)) n _ _ c.loop-column.invariant (c.in_ok-push.ensures.items ∙ ap (λ x. c.loop-column.labels.items ++ x ∷ []) is)
