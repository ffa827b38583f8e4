use Rattle.std.proofs.Common.{◌∙◌, ◌++◌, ◌∷◌, [], ap, sym}
use Rattle.vx_plan_facts.proofs.ValueLists.{first-push}
use Rattle.vx_plan_facts.proofs.classes.each_itself.Goals as goal

pub loop-column-preserved : goal.loop-column-preserved
loop-column-preserved c = c.in_ok-push.ensures.items ∙ ap (λ xs. xs ++ c.loop-column.column ∷ []) c.loop-column.invariant ∙ sym (first-push c.loop-column.column)
