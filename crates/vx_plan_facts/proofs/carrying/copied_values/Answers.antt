use Rattle.std.proofs.Common.{refl}
use Rattle.std.proofs.lemmas.Bool.{eq-eqb, ne_eqb}
use Rattle.vx_plan_nodes.specs.DescribeView.{copying_of}
use Rattle.vx_plan_facts.specs.FactsView.{facts_of}
use Rattle.vx_plan_facts.specs.Listing.{copied}
use Rattle.vx_plan_facts.proofs.ValueLists.{of-first, of-other}
use Rattle.vx_plan_facts.proofs.carrying.copied_values.Goals as goal
use Rattle.vx_plan_facts.proofs.carrying.copied_values.Goals.{then-firsts-column+in_ok-put_copied, else-firsts-column}

pub loop-column-preserved : goal.loop-column-preserved
loop-column-preserved c =
    let n = c.loop-column.column in
    let f = copied (facts_of c.args.below.now) (copying_of c.args.copying) in
    elim c.if-firsts-column.branch [
      | then-firsts-column+in_ok-put_copied w ↦ rw w.fixed-is (of-first c.args.firsts.now f n _ _ _ c.loop-column.invariant refl (eq-eqb _ _ w.if-firsts-column.true) w.in_ok-put_copied.ensures)
      | else-firsts-column w ↦ rw w.fixed-is (of-other c.args.firsts.now f n _ _ c.loop-column.invariant refl (ne_eqb _ _ w.if-firsts-column.false))
    ]
