use Rattle.std.proofs.Common.{refl}
use Rattle.vx_plan_nodes.specs.TypedView.{scope}
use Rattle.vx_check_rules.specs.declared.table.Table.TheVariants.{Second}
use Rattle.vx_check_rules.specs.KnownNode.{IsKnownTyped}
use Rattle.vx_check_sentences.proofs.second_table.passes_second.Goals as goal

pub refuses-requires-2-clause-judges : goal.refuses-requires-2-clause-judges
refuses-requires-2-clause-judges c =
    c.requires.judged (Second c.in_ok-known_columns.field-0)
    (record { known = c.in_ok-known_columns.ensures.known; typed = (scope c.args.plan.now, refl, rw c.root.ensures.plan at c.root.ensures.typed.nodes) })
