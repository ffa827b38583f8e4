use Rattle.std.proofs.Common.{flat_map, arith}
use Rattle.vx_plan_nodes.specs.DescribeView.{copying_of}
use Rattle.vx_check_options.specs.Options.{entry_copies}
use Rattle.vx_check_options.proofs.LoopLists.{whole, flat-next}
use Rattle.vx_check_options.proofs.order_choices.all_copies.Goals as goal

pub loop-entry-preserved : goal.loop-entry-preserved
loop-entry-preserved c =
    flat-next (entry_copies (copying_of c.args.copying)) c.args.entries.now c.loop-entry.entry-index _ _ _ c.loop-entry-test.true c.loop-entry.invariant c.in_ok-add_entry_copies.ensures

pub loop-entry-init : goal.loop-entry-init
loop-entry-init c = c.new-found.ensures.items

pub returns : goal.returns
returns c = whole (flat_map (entry_copies (copying_of c.args.copying))) c.args.entries.now c.loop-entry.entry-index _ (omega (arith, c.loop-entry-test.false)) c.loop-entry.invariant
