use Rattle.std.proofs.Common.{◌||◌, map}
use Rattle.vx_rows_values.specs.Lists.{is_some_list}
use Rattle.vx_plan_facts.specs.Facts.{values_in}
use Rattle.vx_plan_facts.specs.FactsView.{fixed_of}
use Rattle.vx_plan_facts.specs.ColumnSetView.{set_of_columns}
use Rattle.vx_plan_facts.proofs.MarkedFacts.{put-value}
use Rattle.vx_plan_facts.proofs.closing.put_fixed.Goals as goal

pub loop-each-preserved : goal.loop-each-preserved
loop-each-preserved c v l =
    put-value c.args.fixed.now c.loop-each.each-index c.each-item.result v (set_of_columns c.loop-each.firsts v) (set_of_columns c.put.new.self v)
    (set_of_columns c.args.firsts.now v || is_some_list (values_in (map fixed_of c.args.fixed.now) v)) c.loop-each-test.true c.each-item.is (c.put.ensures v l) (c.loop-each.invariant v l)
