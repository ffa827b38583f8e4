use Rattle.std.proofs.Common.{◌∙◌, ap, sym}
use Rattle.vx_plan_facts.specs.ColumnSetView.{set_of_columns}
use Rattle.vx_check_rules.proofs.OrderSteps.{members-in, members-out}
use Rattle.vx_check_rules.proofs.column_list.members.Goals.{then-contains, else-contains}
use Rattle.vx_check_rules.proofs.column_list.members.Goals as goal

pub loop-column-preserved : goal.loop-column-preserved
loop-column-preserved c =
    let s = set_of_columns c.args.set.now in
    let n = c.loop-column.column in
    elim c.if-contains.branch [
      | then-contains w ↦
          members-in s n c.loop-column.list.items c.if-contains.list.items c.loop-column.invariant (sym c.contains.ensures ∙ w.if-contains.true)
          (ap (λ v. v.items) w.list-is ∙ w.push.ensures.items)
      | else-contains w ↦
          members-out s n c.loop-column.list.items c.if-contains.list.items c.loop-column.invariant (sym c.contains.ensures ∙ w.if-contains.false) (ap (λ v. v.items) w.list-is)
    ]
