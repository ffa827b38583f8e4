use Rattle.std.proofs.Common.{◌≡◌, flat_map, take}
use Rattle.vx_plan_nodes.specs.DescribeView.{copying_of}
use Rattle.vx_check_options.specs.Options.{entry_copies}
use Rattle.vx_check_options.proofs.order_choices.all_copies.Given as goal

abbrev pub invariant-loop-entry : goal.invariant-loop-entry
invariant-loop-entry l = l.found.items ≡ flat_map (entry_copies (copying_of l.copying)) (take l.entry-index l.entries)
