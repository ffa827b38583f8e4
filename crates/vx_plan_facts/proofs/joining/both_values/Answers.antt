use Rattle.std.proofs.Common.{length}
use Rattle.vx_plan_facts.specs.FactsView.{facts_of}
use Rattle.vx_plan_facts.specs.Listing.{beside, side_by_side}
use Rattle.vx_plan_facts.proofs.ValueLists.{flat-more}
use Rattle.vx_plan_facts.proofs.joining.both_values.Goals as goal

pub loop-column-preserved : goal.loop-column-preserved
loop-column-preserved c =
    let l = c.args.left.now in
    flat-more (λ d. beside d (side_by_side (length l.firsts.items) (facts_of l) (facts_of c.args.right.now) d)) c.loop-column.column _ _ c.loop-column.invariant c.in_ok-put_side.ensures
