use Rattle.std.proofs.Common.{◌&&◌, ◌||◌, ap, sym, ◌∙◌}
use Rattle.vx_plan_nodes.specs.Describe.{source}
use Rattle.vx_plan_facts.specs.Determined.{is_copy_of}
use Rattle.vx_plan_facts.specs.ColumnSetView.{set_of_columns}
use Rattle.vx_plan_facts.specs.AskingView.{copies_of}
use Rattle.vx_plan_facts.proofs.ColumnSets.{any-push}
use Rattle.vx_plan_facts.proofs.inputs.sources.Goals as goal

pub loop-column-preserved : goal.loop-column-preserved
loop-column-preserved c x l =
    let k = copies_of c.args.copies in
    let s = set_of_columns c.args.set.now in
    let n = c.loop-column.column in
    c.put_source.ensures x l ∙ ap (λ b. b || (s n && is_copy_of x (source k n))) (c.loop-column.invariant x l)
    ∙ sym (any-push (λ d. s d && is_copy_of x (source k d)) n)
